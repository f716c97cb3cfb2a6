use Rattle.client_quirks.proofs.Exchanging.{HeardSoFar}
use Rattle.client_quirks.proofs.exchange.hear_frames.Given as goal

abbrev pub invariant-loop-frame : goal.invariant-loop-frame
invariant-loop-frame l = HeardSoFar l.manager l.fn.from.speech l.fn.from.late l.frames l.fn.handed l.fn.going l.at.speech l.at.late l.handed l.going l.frame-index
