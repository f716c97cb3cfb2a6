use Rattle.session_return.proofs.Kept.{not_due}
use Rattle.session_return.proofs.laws.nothing_back_is_due.Goals as goal

pub returns : goal.returns
returns c = not_due
