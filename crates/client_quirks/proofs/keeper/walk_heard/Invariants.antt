use Rattle.client_quirks.specs.Leaving.{mark}
use Rattle.client_quirks.proofs.Marking.{Hearing}
use Rattle.client_quirks.proofs.keeper.walk_heard.Given as goal

abbrev pub invariant-loop-frame : goal.invariant-loop-frame
invariant-loop-frame l = Hearing (mark l.fn.speech l.fn.stage) l.frames l.walked.speech l.walked.stage l.walked.count l.frame-index
