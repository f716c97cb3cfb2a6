use Rattle.keeper_clients.proofs.Joiners.{joiners-free}
use Rattle.keeper_clients.proofs.laws.joiners_are_free.Goals as goal

pub returns : goal.returns
returns c = joiners-free
