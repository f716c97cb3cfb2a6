use Rattle.std.specs.Prelude.{option_copied}
use Rattle.trace_reading.proofs.PartLemmas.{Going}
use Rattle.trace_reading.proofs.telling.put_sent_frames.Given as goal

abbrev pub invariant-loop-frame : goal.invariant-loop-frame
invariant-loop-frame l = Going l.clock l.conn (option_copied l.known) l.frames l.frame-index l.initial.out l.out
