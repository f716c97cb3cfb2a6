use Rattle.program_keeper.proofs.DueLaws.{acts_are_due}
use Rattle.program_keeper.proofs.laws.acts_are_due.Goals as goal

pub returns : goal.returns
returns c = acts_are_due
