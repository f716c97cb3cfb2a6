use Rattle.client_quirks.specs.Leaving.{mark}
use Rattle.client_quirks.proofs.Marking.{Telling}
use Rattle.client_quirks.proofs.keeper.walk_told.Given as goal

abbrev pub invariant-loop-frame : goal.invariant-loop-frame
invariant-loop-frame l = Telling (mark l.fn.speech l.fn.stage) l.frames l.walked.speech l.walked.stage l.frame-index
