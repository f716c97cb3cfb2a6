use Rattle.login_plan.proofs.Lawful.{other_stays}
use Rattle.login_plan.proofs.laws.others_stay.Goals as goal

pub returns : goal.returns
returns c = other_stays
