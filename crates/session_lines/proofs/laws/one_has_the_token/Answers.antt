use Rattle.session_lines.proofs.Fronts.{laws-hold}
use Rattle.session_lines.proofs.laws.one_has_the_token.Goals as goal

pub returns : goal.returns
returns c = λ config book seen s. (laws-hold config book seen s).one_has_the_token
