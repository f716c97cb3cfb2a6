use Rattle.session_lines.proofs.Fronts.{laws-hold}
use Rattle.session_lines.proofs.laws.the_second_phase_waits.Goals as goal

pub returns : goal.returns
returns c = λ config book seen s. (laws-hold config book seen s).the_second_phase_waits
