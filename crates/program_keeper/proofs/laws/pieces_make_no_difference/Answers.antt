use Rattle.program_keeper.proofs.HearLaws.{no_difference}
use Rattle.program_keeper.proofs.laws.pieces_make_no_difference.Goals as goal

pub returns : goal.returns
returns c = no_difference
