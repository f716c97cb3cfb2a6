use Rattle.session_lines.proofs.Fronts.{laws-hold}
use Rattle.session_lines.proofs.laws.entries_were_saved.Goals as goal

pub returns : goal.returns
returns c = λ config book seen s. (laws-hold config book seen s).entries_were_saved
