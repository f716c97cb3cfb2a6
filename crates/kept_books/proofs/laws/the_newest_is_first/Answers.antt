use Rattle.std.proofs.Common.{arith}
use Rattle.kept_books.proofs.Keeping.{numbers_left}
use Rattle.kept_books.proofs.laws.the_newest_is_first.Goals as goal

pub returns : goal.returns
returns c = λ name book shelf. omega (arith, numbers_left name book shelf)
