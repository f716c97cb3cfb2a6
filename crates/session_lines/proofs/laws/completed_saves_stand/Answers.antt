use Rattle.session_lines.proofs.Fronts.{laws-hold}
use Rattle.session_lines.proofs.laws.completed_saves_stand.Goals as goal

pub returns : goal.returns
returns c = λ config book seen s. (laws-hold config book seen s).completed_saves_stand
