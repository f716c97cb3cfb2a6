use Rattle.session_lines.proofs.Fronts.{laws-hold}
use Rattle.session_lines.proofs.laws.new_ids_are_of_the_run.Goals as goal

pub returns : goal.returns
returns c = λ config book seen s. (laws-hold config book seen s).new_ids_are_of_the_run
