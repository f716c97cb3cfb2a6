use Rattle.kept_books.proofs.Keeping.{few_kept, own_kept}
use Rattle.kept_books.proofs.laws.what_goes_was_equal_or_sixth.Goals as goal

pub returns : goal.returns
returns c = λ name book shelf. (own_kept name book shelf, few_kept name book shelf)
