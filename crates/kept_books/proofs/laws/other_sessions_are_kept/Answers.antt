use Rattle.kept_books.proofs.Keeping.{other_kept, others_kept}
use Rattle.kept_books.proofs.laws.other_sessions_are_kept.Goals as goal

pub returns : goal.returns
returns c = λ name book shelf. (others_kept name book shelf, other_kept name book shelf)
