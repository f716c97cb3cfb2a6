use Rattle.late_answers.proofs.Parted.{leavers_end}
use Rattle.late_answers.proofs.laws.leavers_end.Goals as goal

pub returns : goal.returns
returns c = leavers_end
