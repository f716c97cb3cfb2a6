use Rattle.session_notes.proofs.Settled.{is-due}
use Rattle.session_notes.proofs.laws.the_first_is_served.Goals as goal

pub returns : goal.returns
returns c = λ book seen x s. is-due book seen _ s
