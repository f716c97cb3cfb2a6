use Rattle.smd_app.proofs.Completing.{mean_one}
use Rattle.smd_app.proofs.laws.words_mean_one_task.Goals as goal

pub returns : goal.returns
returns c = mean_one
