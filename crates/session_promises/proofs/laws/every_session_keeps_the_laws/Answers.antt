use Rattle.session_promises.proofs.Promising.{keeps-all}
use Rattle.session_promises.proofs.laws.every_session_keeps_the_laws.Goals as goal

pub returns : goal.returns
returns c = keeps-all
