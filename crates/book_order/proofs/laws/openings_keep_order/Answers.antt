use Rattle.book_order.proofs.Ordering.{openings_keep}
use Rattle.book_order.proofs.laws.openings_keep_order.Goals as goal

pub returns : goal.returns
returns c = openings_keep
