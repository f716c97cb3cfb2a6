use Rattle.end_schedules.proofs.Folds.{answers-few}
use Rattle.end_schedules.proofs.laws.answers_are_few.Goals as goal

pub returns : goal.returns
returns c = answers-few
