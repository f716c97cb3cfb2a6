use Rattle.checkpoint_slots.proofs.Once.{recovers-once}
use Rattle.checkpoint_slots.proofs.laws.files_recover_to_one.Goals as goal

pub returns : goal.returns
returns c = recovers-once
