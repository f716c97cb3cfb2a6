use Rattle.late_answers.proofs.Parted.{leavers_go_on}
use Rattle.late_answers.proofs.laws.leavers_go_on.Goals as goal

pub returns : goal.returns
returns c = leavers_go_on
