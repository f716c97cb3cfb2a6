use Rattle.late_answers.proofs.LetGo.{others_are_let_go}
use Rattle.late_answers.proofs.laws.others_are_let_go.Goals as goal

pub returns : goal.returns
returns c = others_are_let_go
