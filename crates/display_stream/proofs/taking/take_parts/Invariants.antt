use Rattle.std.proofs.Common.{◌-◌, length}
use Rattle.display_stream.proofs.Fronts.{Taking}
use Rattle.display_stream.proofs.taking.take_parts.Given as goal

abbrev pub invariant-loop-len : goal.invariant-loop-len
invariant-loop-len l = Taking l.fn.parts l.fn.stage l.fn.bytes l.parts l.stage l.taken

abbrev pub decreases-loop-len : goal.decreases-loop-len
decreases-loop-len l = length l.bytes - l.taken
