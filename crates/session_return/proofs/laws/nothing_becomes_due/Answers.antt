use Rattle.session_return.proofs.Kept.{nothing_new}
use Rattle.session_return.proofs.laws.nothing_becomes_due.Goals as goal

pub returns : goal.returns
returns c = nothing_new
