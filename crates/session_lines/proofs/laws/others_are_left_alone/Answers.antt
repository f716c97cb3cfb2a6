use Rattle.session_lines.proofs.Alone.{others-left-alone}
use Rattle.session_lines.proofs.laws.others_are_left_alone.Goals as goal

pub returns : goal.returns
returns c = others-left-alone
