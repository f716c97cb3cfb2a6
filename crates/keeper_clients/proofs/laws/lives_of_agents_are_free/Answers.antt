use Rattle.keeper_clients.proofs.Lives.{lives-free}
use Rattle.keeper_clients.proofs.laws.lives_of_agents_are_free.Goals as goal

pub returns : goal.returns
returns c = lives-free
