use Rattle.session_return.proofs.Kept.{same_again}
use Rattle.session_return.proofs.laws.again_is_the_same.Goals as goal

pub returns : goal.returns
returns c = same_again
