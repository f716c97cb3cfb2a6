use Rattle.late_answers.proofs.Plain.{answers_are_of_the_running_save}
use Rattle.late_answers.proofs.laws.answers_are_of_the_running_save.Goals as goal

pub returns : goal.returns
returns c = answers_are_of_the_running_save
