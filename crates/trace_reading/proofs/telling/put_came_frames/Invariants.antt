use Rattle.trace_reading.proofs.PartLemmas.{Coming}
use Rattle.trace_reading.proofs.telling.put_came_frames.Given as goal

abbrev pub invariant-loop-frame : goal.invariant-loop-frame
invariant-loop-frame l = Coming l.clock l.conn l.fn.known l.frames l.frame-index l.program l.initial.out l.out
