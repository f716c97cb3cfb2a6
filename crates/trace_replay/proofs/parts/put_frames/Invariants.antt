use Rattle.trace_replay.proofs.PartLemmas.{Putting}
use Rattle.trace_replay.proofs.parts.put_frames.Given as goal

abbrev pub invariant-loop-frame : goal.invariant-loop-frame
invariant-loop-frame l = Putting l.channel l.before l.frames l.frame-index l.initial.out l.out l.sequence
