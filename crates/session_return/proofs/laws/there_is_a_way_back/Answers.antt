use Rattle.session_return.proofs.Kept.{back_epoch, back_pending, back_sessions}
use Rattle.session_return.proofs.laws.there_is_a_way_back.Goals as goal

pub returns : goal.returns
returns c = λ name kept present k p. (back_sessions name kept present k p, back_epoch name kept present k p, back_pending name kept present k p)
