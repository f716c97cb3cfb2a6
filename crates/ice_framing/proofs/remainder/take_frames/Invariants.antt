use Rattle.std.proofs.Common.{◌-◌, length}
use Rattle.ice_framing.proofs.Fronts.{Taking}
use Rattle.ice_framing.proofs.remainder.take_frames.Given as goal

abbrev pub invariant-loop-len : goal.invariant-loop-len
invariant-loop-len l = Taking l.fn.frames l.fn.order l.fn.bytes l.frames l.order l.taken

abbrev pub decreases-loop-len : goal.decreases-loop-len
decreases-loop-len l = length l.bytes - l.taken
