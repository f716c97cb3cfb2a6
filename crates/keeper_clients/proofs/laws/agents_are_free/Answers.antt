use Rattle.keeper_clients.proofs.Agents.{agents-free}
use Rattle.keeper_clients.proofs.laws.agents_are_free.Goals as goal

pub returns : goal.returns
returns c = agents-free
