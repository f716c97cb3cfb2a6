use Rattle.program_keeper.proofs.CloseLaws.{closes_are_few}
use Rattle.program_keeper.proofs.laws.closes_are_few.Goals as goal

pub returns : goal.returns
returns c = closes_are_few
