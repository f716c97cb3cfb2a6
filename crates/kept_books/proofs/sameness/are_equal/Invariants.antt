use Rattle.std.proofs.Common.{◌≡◌, drop}
use Rattle.std.specs.Cmp.Lexicographic.{pointwise}
use Rattle.checkpoint_changes.specs.Plain.{equal_entry}
use Rattle.kept_books.proofs.sameness.are_equal.Given as goal

abbrev pub invariant-loop-entry : goal.invariant-loop-entry
invariant-loop-entry l = pointwise equal_entry (drop l.entry-index l.first) l.left ≡ pointwise equal_entry l.first l.second
