use Rattle.book_order.proofs.Ordering.{books_keep}
use Rattle.book_order.proofs.laws.books_keep_order.Goals as goal

pub returns : goal.returns
returns c = books_keep
