use Rattle.end_agreement.proofs.Giving.{giving-meets}
use Rattle.end_agreement.proofs.laws.giving_keeps.Goals as goal

pub returns : goal.returns
returns c = giving-meets
