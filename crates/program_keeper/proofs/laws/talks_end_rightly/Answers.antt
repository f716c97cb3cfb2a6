use Rattle.program_keeper.proofs.DueLaws.{talks_end_rightly}
use Rattle.program_keeper.proofs.laws.talks_end_rightly.Goals as goal

pub returns : goal.returns
returns c = talks_end_rightly
