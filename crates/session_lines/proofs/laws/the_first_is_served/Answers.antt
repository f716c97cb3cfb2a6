use Rattle.session_lines.proofs.Fronts.{laws-hold}
use Rattle.session_lines.proofs.laws.the_first_is_served.Goals as goal

pub returns : goal.returns
returns c = λ config book seen s. (laws-hold config book seen s).the_first_is_served
