use Rattle.session_notes.proofs.Settled.{ids-hold}
use Rattle.session_notes.proofs.laws.new_ids_differ.Goals as goal

pub returns : goal.returns
returns c = λ book seen o s. (ids-hold book seen s).1 o
