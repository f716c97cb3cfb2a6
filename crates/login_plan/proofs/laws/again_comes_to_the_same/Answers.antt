use Rattle.login_plan.proofs.Lawful.{first_step, second_step, third_step}
use Rattle.login_plan.proofs.laws.again_comes_to_the_same.Goals as goal

pub returns : goal.returns
returns c =
    λ number name shelf present kept found k p below. (first_step number name shelf present kept found k p below, second_step number name shelf present kept found k p below, third_step number name shelf present kept found k p below)
