use Rattle.login_plan.specs.Books.{AreKept}
use Rattle.shelf_files.proofs.folder.ShelfFolder.open.Given as goal

abbrev pub invariant-loop-found : goal.invariant-loop-found
invariant-loop-found l = AreKept l.shelf
