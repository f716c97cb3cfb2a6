use Rattle.std.proofs.Common.{◌≡◌, ◌-◌, take, length}
use Rattle.frame_speech.specs.Streams.{bytes_in}
use Rattle.frame_speech.proofs.cutter.left_behind.Given as goal

abbrev pub invariant-loop-frame : goal.invariant-loop-frame
invariant-loop-frame l = l.left ≡ l.count - length (bytes_in (take l.frame-index l.frames))
