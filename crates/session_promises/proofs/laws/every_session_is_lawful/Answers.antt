use Rattle.session_promises.proofs.Promising.{all-lawful}
use Rattle.session_promises.proofs.laws.every_session_is_lawful.Goals as goal

pub returns : goal.returns
returns c = all-lawful
