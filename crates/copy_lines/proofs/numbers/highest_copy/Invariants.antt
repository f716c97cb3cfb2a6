use Rattle.std.proofs.Common.{map, string_bytes, take}
use Rattle.copy_lines.specs.Numbers.{IsHighest}
use Rattle.copy_lines.proofs.numbers.highest_copy.Given as goal

abbrev pub invariant-loop-entry : goal.invariant-loop-entry
invariant-loop-entry l = IsHighest l.name (map string_bytes (take l.entry-index l.entries)) l.highest
