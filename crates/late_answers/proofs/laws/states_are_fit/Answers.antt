use Rattle.late_answers.proofs.Fit.{states_are_fit}
use Rattle.late_answers.proofs.laws.states_are_fit.Goals as goal

pub returns : goal.returns
returns c = states_are_fit
