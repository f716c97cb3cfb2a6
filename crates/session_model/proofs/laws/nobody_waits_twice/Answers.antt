use Rattle.session_model.proofs.Lists.{distinct-from_once}
use Rattle.session_model.proofs.Asked.{once-waiting}
use Rattle.session_model.proofs.laws.nobody_waits_twice.Goals as goal

pub returns : goal.returns
returns c = λ h. distinct-from_once _ (once-waiting h)
