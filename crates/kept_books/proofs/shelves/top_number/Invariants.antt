use Rattle.std.proofs.Common.{◌≡◌, drop}
use Rattle.std.specs.Prelude.{max}
use Rattle.kept_books.specs.Shelves.{top_number}
use Rattle.kept_books.proofs.shelves.top_number.Given as goal

abbrev pub invariant-loop-kept : goal.invariant-loop-kept
invariant-loop-kept l = max l.top (top_number (drop l.kept-index l.shelf)) ≡ top_number l.shelf
