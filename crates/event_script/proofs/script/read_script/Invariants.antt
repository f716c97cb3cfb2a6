use Rattle.std.proofs.Common.{length}
use Rattle.event_script.proofs.ScriptLemmas.{Reading}
use Rattle.event_script.proofs.script.read_script.Given as goal

abbrev pub invariant-loop-left : goal.invariant-loop-left
invariant-loop-left l = Reading l.taken l.script l.left l.events l.number

abbrev pub decreases-loop-left : goal.decreases-loop-left
decreases-loop-left l = length l.left
