use Rattle.smclient_app.proofs.Completing.{complete}
use Rattle.smclient_app.proofs.laws.calls_are_complete.Goals as goal

pub returns : goal.returns
returns c = complete
