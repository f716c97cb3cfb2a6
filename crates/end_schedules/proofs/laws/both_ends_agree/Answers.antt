use Rattle.end_schedules.proofs.Folds.{both-agree}
use Rattle.end_schedules.proofs.laws.both_ends_agree.Goals as goal

pub returns : goal.returns
returns c = both-agree
