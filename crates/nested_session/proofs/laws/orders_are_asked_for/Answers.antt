use Rattle.nested_session.proofs.AskedLaws.{orders_are_asked_for}
use Rattle.nested_session.proofs.laws.orders_are_asked_for.Goals as goal

pub returns : goal.returns
returns c = orders_are_asked_for
