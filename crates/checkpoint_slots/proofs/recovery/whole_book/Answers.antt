use Rattle.std.proofs.Common.{subst, arith}
use Rattle.checkpoint_records.specs.declared.refusals.BookRefusal.{BookRefusal}
use Rattle.checkpoint_changes.specs.Amendments.{IsSlotRefused}
use Rattle.checkpoint_slots.proofs.Leading.{slot-damaged-within}
use Rattle.checkpoint_slots.proofs.recovery.whole_book.Goals as goal

pub overflow_add-result : goal.overflow_add-result
overflow_add-result c =
    let within = slot-damaged-within c.args.bytes.now c.args.count c.in-Err-Damaged.damage c.requires.book (subst (λ (r : BookRefusal). IsSlotRefused c.args.bytes.now c.args.count r) c.in-Err-Damaged.field-0-is c.in-Err-Damaged.ensures.damaged) in
    let size = c.requires.size in
    let place = c.requires.place in
    omega (arith, within, size, place)
