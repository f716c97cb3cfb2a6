use Rattle.session_lines.proofs.Fronts.{laws-hold}
use Rattle.session_lines.proofs.laws.old_ids_are_recorded.Goals as goal

pub returns : goal.returns
returns c = λ config book seen s. (laws-hold config book seen s).old_ids_are_recorded
