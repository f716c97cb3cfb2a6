use Rattle.late_answers.proofs.Plain.{debts_end}
use Rattle.late_answers.proofs.laws.debts_end.Goals as goal

pub returns : goal.returns
returns c = debts_end
