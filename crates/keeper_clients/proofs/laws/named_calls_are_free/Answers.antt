use Rattle.keeper_clients.proofs.Calls.{calls-free}
use Rattle.keeper_clients.proofs.laws.named_calls_are_free.Goals as goal

pub returns : goal.returns
returns g c = calls-free g.S.NamedSaves.answers g.D.NamedDies.gives
