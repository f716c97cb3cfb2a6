use Rattle.program_keeper.proofs.StartLaws.{starts_are_earned}
use Rattle.program_keeper.proofs.laws.starts_are_earned.Goals as goal

pub returns : goal.returns
returns c = starts_are_earned
