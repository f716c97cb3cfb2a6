use Rattle.session_notes.proofs.Settled.{is-owed}
use Rattle.session_notes.proofs.laws.entries_were_saved.Goals as goal

pub returns : goal.returns
returns c = λ book written seen s. (is-owed book seen _ s).0
