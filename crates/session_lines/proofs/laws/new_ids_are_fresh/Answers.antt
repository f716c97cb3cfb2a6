use Rattle.session_lines.proofs.Fronts.{laws-hold}
use Rattle.session_lines.proofs.laws.new_ids_are_fresh.Goals as goal

pub returns : goal.returns
returns c = λ cookie book seen s. (laws-hold cookie book seen s).new_ids_are_fresh
