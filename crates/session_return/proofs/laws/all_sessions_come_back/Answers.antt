use Rattle.session_return.proofs.Kept.{all_back}
use Rattle.session_return.proofs.laws.all_sessions_come_back.Goals as goal

pub returns : goal.returns
returns c = all_back
