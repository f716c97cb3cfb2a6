use Rattle.outer_agent.proofs.SuccessLaws.{no_success}
use Rattle.outer_agent.proofs.laws.pieces_bring_no_success.Goals as goal

pub returns : goal.returns
returns c = no_success
