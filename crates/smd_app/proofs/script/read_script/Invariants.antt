use Rattle.std.proofs.Common.{length}
use Rattle.smd_app.proofs.ScriptLemmas.{Reading}
use Rattle.smd_app.proofs.script.read_script.Given as goal

abbrev pub invariant-loop-left : goal.invariant-loop-left
invariant-loop-left l = Reading l.script l.left l.events l.number

abbrev pub decreases-loop-left : goal.decreases-loop-left
decreases-loop-left l = length l.left
