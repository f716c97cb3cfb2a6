use Rattle.book_order.proofs.Sizing.{plain_once}
use Rattle.book_order.proofs.laws.plain_deltas_are_as_long.Goals as goal

pub returns : goal.returns
returns c = plain_once
