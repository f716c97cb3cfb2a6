use Rattle.late_answers.proofs.Standing.{leavers_stand}
use Rattle.late_answers.proofs.laws.leavers_stand.Goals as goal

pub returns : goal.returns
returns c = leavers_stand
