use Rattle.login_plan.proofs.Lawful.{never_falls}
use Rattle.login_plan.proofs.laws.stores_never_fall.Goals as goal

pub returns : goal.returns
returns c = never_falls
