use Rattle.session_watch.proofs.Noting.{Noting}
use Rattle.session_watch.proofs.spoken.note_frames.Given as goal

abbrev pub invariant-loop-frame : goal.invariant-loop-frame
invariant-loop-frame l = Noting l.party l.fn.speech l.frames l.fn.known l.speech l.known l.frame-index
