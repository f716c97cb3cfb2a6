use Rattle.outer_agent.proofs.EndLaws.{one_by_one}
use Rattle.outer_agent.proofs.laws.saves_come_one_by_one.Goals as goal

pub returns : goal.returns
returns c = one_by_one
