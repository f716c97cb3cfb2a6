use Rattle.end_agreement.proofs.Taken.{taking-meets}
use Rattle.end_agreement.proofs.laws.taking_keeps.Goals as goal

pub returns : goal.returns
returns c = taking-meets
