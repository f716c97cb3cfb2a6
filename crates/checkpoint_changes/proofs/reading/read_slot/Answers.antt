use Rattle.std.proofs.Common.{◌+◌}
use Rattle.checkpoint_records.specs.declared.refusals.BookRefusal.TheVariants.{Damaged}
use Rattle.checkpoint_changes.proofs.ReadLaws.{slot_stops}
use Rattle.checkpoint_changes.proofs.SlotLaws.{exact_book, exact_refusal, front_refused}
use Rattle.checkpoint_changes.proofs.reading.read_slot.Goals as goal

pub returns-in-Err-clause-exact : goal.returns-in-Err-clause-exact
returns-in-Err-clause-exact c =
    exact_refusal c.args.bytes.now c.args.n c.in-Err.refusal (front_refused c.args.bytes.now c.args.n c.split_at.result.0.now c.split_at.result.1.now c.split_at.ensures.front c.split_at.ensures.back c.in-Err.refusal c.in-Err.ensures.damaged)

pub returns-in-Ok-read_on-clause-exact : goal.returns-in-Ok-read_on-clause-exact
returns-in-Ok-read_on-clause-exact c =
    exact_book c.args.bytes.now c.args.n c.split_at.result.0.now c.split_at.result.1.now c.split_at.ensures.front c.split_at.ensures.back c.in-Ok.first.format c.in-Ok.first.book c.in-Ok-read_on.book c.in-Ok-read_on.more c.in-Ok.ensures.book c.in-Ok-read_on.ensures.book c.told_length.result c.told_length.ensures

pub returns-in-Err-Damaged-clause-exact : goal.returns-in-Err-Damaged-clause-exact
returns-in-Err-Damaged-clause-exact c =
    let stops = rw c.in-Err-Damaged.field-0-is at c.in-Err-Damaged.ensures.damaged in
    rw c.in-Err-Damaged.field-0-is (exact_refusal c.args.bytes.now c.args.n (Damaged (c.args.n + c.in-Err-Damaged.at))
    (slot_stops c.args.bytes.now c.args.n c.split_at.result.0.now c.split_at.result.1.now c.split_at.ensures.front c.split_at.ensures.back c.in-Ok.first.format c.in-Ok.first.book c.in-Err-Damaged.at c.in-Ok.ensures.book stops))
