use Rattle.smnest_app.proofs.Excluding.{mean_one}
use Rattle.smnest_app.proofs.laws.words_mean_one_task.Goals as goal

pub returns : goal.returns
returns c = mean_one
