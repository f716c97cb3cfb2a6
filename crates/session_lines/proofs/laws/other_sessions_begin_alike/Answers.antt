use Rattle.session_lines.proofs.Crashes.{others-begin}
use Rattle.session_lines.proofs.laws.other_sessions_begin_alike.Goals as goal

pub returns : goal.returns
returns c = others-begin
