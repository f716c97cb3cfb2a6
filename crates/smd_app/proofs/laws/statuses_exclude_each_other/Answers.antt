use Rattle.smd_app.proofs.Excluding.{fits_once}
use Rattle.smd_app.proofs.laws.statuses_exclude_each_other.Goals as goal

pub returns : goal.returns
returns c = λ patience bytes. fits_once patience bytes c.args.turns
