use Rattle.std.proofs.Common.{◌≡◌, ◌++◌, drop}
use Rattle.kept_books.specs.Shelves.{not_of}
use Rattle.kept_books.proofs.shelves.add_others.Given as goal

abbrev pub invariant-loop-kept : goal.invariant-loop-kept
invariant-loop-kept l = l.left ++ not_of l.name (drop l.kept-index l.shelf) ≡ l.initial.left ++ not_of l.name l.shelf
