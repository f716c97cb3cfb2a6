use Rattle.std.proofs.Common.{length}
use Rattle.frame_speech.proofs.Passed.{Passing}
use Rattle.frame_speech.proofs.passing.are_passed.Given as goal

abbrev pub invariant-loop-len : goal.invariant-loop-len
invariant-loop-len g l = Passing (g.H.Heeds.ignores l.heeds) l.endian l.bytes l.rest

abbrev pub decreases-loop-len : goal.decreases-loop-len
decreases-loop-len g l = length l.rest
