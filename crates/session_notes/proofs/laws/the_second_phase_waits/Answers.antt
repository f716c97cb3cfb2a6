use Rattle.session_notes.proofs.Settled.{is-due}
use Rattle.session_notes.proofs.laws.the_second_phase_waits.Goals as goal

pub returns : goal.returns
returns c = λ book seen x y s. is-due book seen _ s y
