use Rattle.session_engine.proofs.Counting.{saved_placed}
use Rattle.session_engine.proofs.laws.checkpoints_are_in_their_place.Goals as goal

pub returns : goal.returns
returns c = saved_placed
