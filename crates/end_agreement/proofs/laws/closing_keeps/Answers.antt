use Rattle.end_agreement.proofs.Asking.{closing-meets}
use Rattle.end_agreement.proofs.laws.closing_keeps.Goals as goal

pub returns : goal.returns
returns c = closing-meets
