use Rattle.kept_books.proofs.Keeping.{left_again, others_kept}
use Rattle.kept_books.proofs.laws.again_keeps_the_same.Goals as goal

pub returns : goal.returns
returns c = λ name book shelf. (left_again name book shelf, others_kept name book shelf)
