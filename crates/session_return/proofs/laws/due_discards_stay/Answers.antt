use Rattle.session_return.proofs.Kept.{due_stays}
use Rattle.session_return.proofs.laws.due_discards_stay.Goals as goal

pub returns : goal.returns
returns c = due_stays
