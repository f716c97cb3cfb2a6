use Rattle.session_notes.proofs.Settled.{ids-hold}
use Rattle.session_notes.proofs.laws.new_ids_are_of_the_run.Goals as goal

pub returns : goal.returns
returns c = λ book seen s. (ids-hold book seen s).0
