use Rattle.end_agreement.proofs.Entering.{begins-meets}
use Rattle.end_agreement.proofs.laws.crossings_begin.Goals as goal

pub returns : goal.returns
returns c = begins-meets
