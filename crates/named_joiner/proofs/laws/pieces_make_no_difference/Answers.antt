use Rattle.named_joiner.proofs.PieceLaws.{no_difference}
use Rattle.named_joiner.proofs.laws.pieces_make_no_difference.Goals as goal

pub returns : goal.returns
returns c = no_difference
