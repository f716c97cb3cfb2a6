use Rattle.std.proofs.Common.{◌≡◌, drop}
use Rattle.std.specs.Prelude.{max}
use Rattle.kept_books.specs.Shelves.{top_epoch}
use Rattle.kept_books.proofs.shelves.top_epoch.Given as goal

abbrev pub invariant-loop-kept : goal.invariant-loop-kept
invariant-loop-kept l = max l.top (top_epoch (drop l.kept-index l.shelf)) ≡ top_epoch l.shelf
