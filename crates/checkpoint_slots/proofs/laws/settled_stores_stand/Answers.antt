use Rattle.checkpoint_slots.proofs.Once.{settled-stands}
use Rattle.checkpoint_slots.proofs.laws.settled_stores_stand.Goals as goal

pub returns : goal.returns
returns c = settled-stands
