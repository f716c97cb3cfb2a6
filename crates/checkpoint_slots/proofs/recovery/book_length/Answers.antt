use Rattle.std.proofs.Common.{ℕ, ◌+◌, ap, ◌∙◌}
use Rattle.checkpoint_slots.proofs.Reading.{length-at}
use Rattle.checkpoint_slots.proofs.recovery.book_length.Goals as goal

pub returns-in-Ok-clause-number : goal.returns-in-Ok-clause-number
returns-in-Ok-clause-number g c = λ file settled. c.read_u32.ensures ∙ length-at file c.args.slot (c.start.result + 8) c.read.new.into (ap (λ (n : ℕ). n + 8) c.start.ensures) (c.in-Ok.ensures.bytes file settled)
