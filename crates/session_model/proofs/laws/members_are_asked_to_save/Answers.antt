use Rattle.session_model.specs.Rules.{opened}
use Rattle.session_model.proofs.Replied.{good-opened, good-run}
use Rattle.session_model.proofs.laws.members_are_asked_to_save.Goals as goal

pub returns : goal.returns
returns c = λ opening events. (good-run events (opened opening) (good-opened opening)).level
