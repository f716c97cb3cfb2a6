use Rattle.end_agreement.proofs.Taken.{agree-in-the-end}
use Rattle.end_agreement.proofs.laws.ends_agree.Goals as goal

pub returns : goal.returns
returns c = agree-in-the-end
