use Rattle.client_quirks.proofs.Stands.{StoodSoFar}
use Rattle.client_quirks.proofs.stand_in.answer_frames.Given as goal

abbrev pub invariant-loop-frame : goal.invariant-loop-frame
invariant-loop-frame l = StoodSoFar l.client l.speech l.fn.from l.frames l.fn.handed l.fn.started l.leaver l.handed l.started l.frame-index
