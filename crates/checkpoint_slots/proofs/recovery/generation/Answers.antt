use Rattle.std.proofs.Common.{◌∙◌}
use Rattle.checkpoint_slots.proofs.Reading.{generation-at}
use Rattle.checkpoint_slots.proofs.recovery.generation.Goals as goal

pub returns-in-Ok-clause-number : goal.returns-in-Ok-clause-number
returns-in-Ok-clause-number g c = λ file settled. c.read_u64.ensures ∙ generation-at file c.args.slot c.start.result c.read.new.into c.start.ensures (c.in-Ok.ensures.bytes file settled)
