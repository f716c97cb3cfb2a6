use Rattle.end_agreement.proofs.Taken.{not-unexpected}
use Rattle.end_agreement.proofs.laws.nothing_is_unexpected.Goals as goal

pub returns : goal.returns
returns c = not-unexpected
