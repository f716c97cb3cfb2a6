use Rattle.keeper_clients.proofs.Joins.{joins-free}
use Rattle.keeper_clients.proofs.laws.joins_are_free.Goals as goal

pub returns : goal.returns
returns g c = joins-free g.S.Saves.answers g.D.Dies.gives g.C.Cancels.hears
