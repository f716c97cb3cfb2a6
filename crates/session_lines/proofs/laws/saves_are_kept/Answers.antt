use Rattle.session_lines.proofs.Fronts.{laws-hold}
use Rattle.session_lines.proofs.laws.saves_are_kept.Goals as goal

pub returns : goal.returns
returns c = λ config book seen s. (laws-hold config book seen s).saves_are_kept
