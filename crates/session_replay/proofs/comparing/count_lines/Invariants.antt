use Rattle.std.proofs.Common.{◌≡◌, ◌+◌, length}
use Rattle.control_lines.specs.Lines.{lines_of}
use Rattle.session_replay.proofs.comparing.count_lines.Given as goal

abbrev pub invariant-loop-left : goal.invariant-loop-left
invariant-loop-left l = l.count + length (lines_of l.left) ≡ length (lines_of l.text)

abbrev pub decreases-loop-left : goal.decreases-loop-left
decreases-loop-left l = length l.left
