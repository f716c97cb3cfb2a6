use Rattle.client_callbacks.proofs.OneEnd.{one_end}
use Rattle.client_callbacks.proofs.laws.ends_exclude_each_other.Goals as goal

pub returns : goal.returns
returns g c = one_end g.S.Saves.answers g.D.Dies.gives g.C.Cancels.hears
