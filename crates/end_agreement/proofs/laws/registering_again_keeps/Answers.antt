use Rattle.end_agreement.proofs.Entering.{again-meets}
use Rattle.end_agreement.proofs.laws.registering_again_keeps.Goals as goal

pub returns : goal.returns
returns c = again-meets
