use Rattle.end_agreement.proofs.Owed.{saves-asked}
use Rattle.end_agreement.proofs.laws.saves_are_asked.Goals as goal

pub returns : goal.returns
returns c = saves-asked
