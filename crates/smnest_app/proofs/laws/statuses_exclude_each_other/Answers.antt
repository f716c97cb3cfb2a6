use Rattle.smnest_app.proofs.Excluding.{fits_once}
use Rattle.smnest_app.proofs.laws.statuses_exclude_each_other.Goals as goal

pub returns : goal.returns
returns c = λ id words bytes. fits_once id words bytes c.args.turns
