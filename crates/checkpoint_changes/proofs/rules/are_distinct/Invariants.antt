use Rattle.std.proofs.Common.{length}
use Rattle.std.specs.List.{IsDistinct}
use Rattle.checkpoint_records.specs.Books.{same_command}
use Rattle.checkpoint_changes.proofs.rules.are_distinct.Given as goal

abbrev pub invariant-loop-left : goal.invariant-loop-left
invariant-loop-left l = (IsDistinct same_command l.left → IsDistinct same_command l.commands) × (IsDistinct same_command l.commands → IsDistinct same_command l.left)

abbrev pub decreases-loop-left : goal.decreases-loop-left
decreases-loop-left l = length l.left
