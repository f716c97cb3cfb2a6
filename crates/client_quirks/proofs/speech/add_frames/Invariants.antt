use Rattle.client_quirks.proofs.Walking.{Walking}
use Rattle.client_quirks.proofs.speech.add_frames.Given as goal

abbrev pub invariant-loop-frame : goal.invariant-loop-frame
invariant-loop-frame l = Walking l.fn.speech l.frames l.fn.out l.so_far.speech l.so_far.changed l.out l.frame-index
