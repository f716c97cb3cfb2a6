use Rattle.session_notes.proofs.Settled.{is-owed}
use Rattle.session_notes.proofs.laws.old_ids_are_recorded.Goals as goal

pub returns : goal.returns
returns c = λ book seen x id s. (is-owed book seen _ s).0
