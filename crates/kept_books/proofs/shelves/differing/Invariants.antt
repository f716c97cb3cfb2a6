use Rattle.std.proofs.Common.{◌≡◌, ◌++◌, drop, filter}
use Rattle.kept_books.specs.Shelves.{differs}
use Rattle.kept_books.proofs.shelves.differing.Given as goal

abbrev pub invariant-loop-kept : goal.invariant-loop-kept
invariant-loop-kept l = l.left ++ filter (differs l.name l.book) (drop l.kept-index l.shelf) ≡ filter (differs l.name l.book) l.shelf
