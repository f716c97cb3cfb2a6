use Rattle.session_return.proofs.Kept.{others_stay}
use Rattle.session_return.proofs.laws.other_sessions_stay.Goals as goal

pub returns : goal.returns
returns c = others_stay
