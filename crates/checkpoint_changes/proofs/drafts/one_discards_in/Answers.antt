use Rattle.checkpoint_changes.specs.Together.{discards_any}
use Rattle.checkpoint_changes.proofs.TogetherLaws.{any_chosen, any_other}
use Rattle.checkpoint_changes.proofs.drafts.one_discards_in.Goals as goal

pub returns-then-one_discards : goal.returns-then-one_discards
returns-then-one_discards c =
    rw (← c.as_slice-pending.ensures) (any_chosen (discards_any c.as_slice-pending.result.now) c.args.book.now.entries c.as_slice.result.now c.args.book.now.others c.one_discards.result c.as_slice.ensures c.one_discards.ensures c.if-one_discards.ensures)

pub returns-else-one_discards : goal.returns-else-one_discards
returns-else-one_discards c =
    rw (← c.as_slice-pending.ensures)
    (any_other (discards_any c.as_slice-pending.result.now) c.args.book.now.entries c.as_slice.result.now c.args.book.now.others c.as_slice-else-one_discards.result.now c.one_discards_among.result
    c.as_slice.ensures c.as_slice-else-one_discards.ensures c.if-one_discards.ensures c.one_discards_among.ensures)
