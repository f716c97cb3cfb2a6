use Rattle.checkpoint_changes.proofs.OnceLaws.{slot_reads_once}
use Rattle.checkpoint_changes.proofs.laws.slots_read_once.Goals as goal

pub returns : goal.returns
returns c = slot_reads_once
