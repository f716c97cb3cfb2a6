use Rattle.session_return.proofs.Kept.{never_below}
use Rattle.session_return.proofs.laws.epochs_never_fall.Goals as goal

pub returns : goal.returns
returns c = λ which kept present. never_below present.epoch kept.epoch
