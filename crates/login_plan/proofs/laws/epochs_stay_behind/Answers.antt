use Rattle.login_plan.proofs.Lawful.{stays_behind}
use Rattle.login_plan.proofs.laws.epochs_stay_behind.Goals as goal

pub returns : goal.returns
returns c = λ choice name shelf present asked known. stays_behind name shelf present choice asked known
