use Rattle.end_agreement.proofs.Owed.{answers-owed}
use Rattle.end_agreement.proofs.laws.answers_are_owed.Goals as goal

pub returns : goal.returns
returns c = answers-owed
