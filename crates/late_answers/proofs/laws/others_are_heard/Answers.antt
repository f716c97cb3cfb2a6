use Rattle.late_answers.proofs.Plain.{others_are_heard}
use Rattle.late_answers.proofs.laws.others_are_heard.Goals as goal

pub returns : goal.returns
returns c = others_are_heard
