use Rattle.outer_agent.proofs.HearLaws.{no_difference}
use Rattle.outer_agent.proofs.laws.pieces_make_no_difference.Goals as goal

pub returns : goal.returns
returns c = no_difference
