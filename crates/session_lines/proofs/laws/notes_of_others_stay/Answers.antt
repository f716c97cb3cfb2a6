use Rattle.session_lines.proofs.Alike.{others-noted-alike}
use Rattle.session_lines.proofs.laws.notes_of_others_stay.Goals as goal

pub returns : goal.returns
returns c = others-noted-alike
