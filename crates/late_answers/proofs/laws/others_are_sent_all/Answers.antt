use Rattle.late_answers.proofs.Plain.{others_are_sent_all}
use Rattle.late_answers.proofs.laws.others_are_sent_all.Goals as goal

pub returns : goal.returns
returns c = others_are_sent_all
