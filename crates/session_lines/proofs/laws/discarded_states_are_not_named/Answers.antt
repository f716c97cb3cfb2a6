use Rattle.session_lines.proofs.Fronts.{laws-hold}
use Rattle.session_lines.proofs.laws.discarded_states_are_not_named.Goals as goal

pub returns : goal.returns
returns c = λ config book seen s. (laws-hold config book seen s).discarded_states_are_not_named
