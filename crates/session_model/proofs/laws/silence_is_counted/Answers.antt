use Rattle.session_model.proofs.Silent.{counted}
use Rattle.session_model.proofs.laws.silence_is_counted.Goals as goal

pub returns : goal.returns
returns c = counted
