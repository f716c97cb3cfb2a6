use Rattle.std.proofs.Common.{take}
use Rattle.control_lines.specs.Parts.{IsWithout}
use Rattle.control_lines.proofs.lines.split_once.Given as goal

abbrev pub invariant-loop-i : goal.invariant-loop-i
invariant-loop-i l = IsWithout l.byte (take l.i l.bytes)
