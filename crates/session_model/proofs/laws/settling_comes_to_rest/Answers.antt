use Rattle.session_model.proofs.Rests.{rests-always}
use Rattle.session_model.proofs.laws.settling_comes_to_rest.Goals as goal

pub returns : goal.returns
returns c = rests-always
