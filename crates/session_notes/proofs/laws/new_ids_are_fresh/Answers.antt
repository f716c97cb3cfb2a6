use Rattle.session_notes.proofs.Settled.{is-owed}
use Rattle.session_notes.proofs.laws.new_ids_are_fresh.Goals as goal

pub returns : goal.returns
returns c = λ book seen x id o s w. (is-owed book seen _ s).1 o w
