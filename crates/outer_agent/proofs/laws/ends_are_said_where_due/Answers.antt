use Rattle.outer_agent.proofs.EndLaws.{said_where_due}
use Rattle.outer_agent.proofs.laws.ends_are_said_where_due.Goals as goal

pub returns : goal.returns
returns c = said_where_due
