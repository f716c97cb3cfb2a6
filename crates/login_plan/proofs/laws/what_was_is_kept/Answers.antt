use Rattle.session_return.proofs.Beginnings.{anew_empty}
use Rattle.login_plan.specs.Plans.{raised}
use Rattle.login_plan.proofs.Lawful.{was_kept}
use Rattle.login_plan.proofs.Ruled.{raised_rules}
use Rattle.login_plan.proofs.laws.what_was_is_kept.Goals as goal

pub returns : goal.returns
returns c = λ name shelf present p. (anew_empty name (raised shelf present) (raised_rules shelf present p), was_kept name shelf present p)
