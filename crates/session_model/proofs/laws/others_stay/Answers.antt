use Rattle.session_model.proofs.Besides.{others-stay}
use Rattle.session_model.proofs.laws.others_stay.Goals as goal

pub returns : goal.returns
returns c = others-stay
