use Rattle.login_plan.proofs.Lawful.{back_unasked, begun_unasked, stays_unasked}
use Rattle.login_plan.proofs.laws.an_answer_stands.Goals as goal

pub returns : goal.returns
returns c = λ name shelf present. (stays_unasked name shelf present, back_unasked name shelf present, begun_unasked name shelf present)
