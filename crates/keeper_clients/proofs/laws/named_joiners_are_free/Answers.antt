use Rattle.keeper_clients.proofs.Named.{named-free}
use Rattle.keeper_clients.proofs.laws.named_joiners_are_free.Goals as goal

pub returns : goal.returns
returns c = named-free
