use Rattle.std.proofs.Common.{length}
use Rattle.trace_replay.proofs.ReadingLemmas.{Showing}
use Rattle.trace_replay.proofs.showing.show_within.Given as goal

abbrev pub invariant-loop-left : goal.invariant-loop-left
invariant-loop-left l = Showing l.limit l.trace l.left l.opening l.watch l.text l.number

abbrev pub decreases-loop-left : goal.decreases-loop-left
decreases-loop-left l = length l.left
