use Rattle.session_notes.proofs.Besides.{others-stay}
use Rattle.session_notes.proofs.laws.others_stay.Goals as goal

pub returns : goal.returns
returns c = others-stay
