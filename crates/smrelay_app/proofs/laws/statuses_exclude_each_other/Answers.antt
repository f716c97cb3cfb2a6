use Rattle.smrelay_app.proofs.Excluding.{fits_once}
use Rattle.smrelay_app.proofs.laws.statuses_exclude_each_other.Goals as goal

pub returns : goal.returns
returns c = λ bytes. fits_once bytes c.args.turns
