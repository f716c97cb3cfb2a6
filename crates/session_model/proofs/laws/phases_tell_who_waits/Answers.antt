use Rattle.session_model.proofs.Asked.{phases-tell}
use Rattle.session_model.proofs.laws.phases_tell_who_waits.Goals as goal

pub returns : goal.returns
returns c = phases-tell
