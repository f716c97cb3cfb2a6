use Rattle.smrelay_app.proofs.Excluding.{mean_one}
use Rattle.smrelay_app.proofs.laws.words_mean_one_task.Goals as goal

pub returns : goal.returns
returns c = mean_one
