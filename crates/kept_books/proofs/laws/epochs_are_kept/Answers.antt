use Rattle.kept_books.proofs.Keeping.{epoch_kept}
use Rattle.kept_books.proofs.laws.epochs_are_kept.Goals as goal

pub returns : goal.returns
returns c = epoch_kept
