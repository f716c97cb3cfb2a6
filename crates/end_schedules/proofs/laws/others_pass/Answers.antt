use Rattle.end_schedules.proofs.Runs.{others-pass}
use Rattle.end_schedules.proofs.laws.others_pass.Goals as goal

pub returns : goal.returns
returns c = others-pass
