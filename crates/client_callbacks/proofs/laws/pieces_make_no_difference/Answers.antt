use Rattle.client_callbacks.proofs.PieceLaws.{no_difference}
use Rattle.client_callbacks.proofs.laws.pieces_make_no_difference.Goals as goal

pub returns : goal.returns
returns c = no_difference
