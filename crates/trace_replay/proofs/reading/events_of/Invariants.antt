use Rattle.std.proofs.Common.{◌≡◌, ◌++◌, length}
use Rattle.trace_replay.specs.Traces.{events_in}
use Rattle.trace_replay.proofs.reading.events_of.Given as goal

abbrev pub invariant-loop-said : goal.invariant-loop-said
invariant-loop-said l = l.events ++ events_in l.left.items ≡ events_in l.fn.lines

abbrev pub decreases-loop-said : goal.decreases-loop-said
decreases-loop-said l = length l.left.items
