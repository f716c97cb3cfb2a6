use Rattle.end_schedules.proofs.Runs.{saves-are-of}
use Rattle.end_schedules.proofs.laws.saves_are_of_the_round.Goals as goal

pub returns : goal.returns
returns c = saves-are-of
