use Rattle.end_agreement.proofs.Asking.{asking-meets}
use Rattle.end_agreement.proofs.laws.asking_keeps.Goals as goal

pub returns : goal.returns
returns c = asking-meets
