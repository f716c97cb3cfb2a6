use Rattle.std.proofs.Common.{◌≤◌, drop, length}
use Rattle.control_lines.specs.Parts.{IsWithout}
use Rattle.session_places.proofs.splitting.split_at_last.Given as goal

abbrev pub invariant-loop-at : goal.invariant-loop-at
invariant-loop-at l = (l.at ≤ length l.bytes) × IsWithout l.byte (drop l.at l.bytes)

abbrev pub decreases-loop-at : goal.decreases-loop-at
decreases-loop-at l = l.at
