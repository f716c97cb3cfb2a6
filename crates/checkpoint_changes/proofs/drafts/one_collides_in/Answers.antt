use Rattle.checkpoint_changes.specs.Together.{collides}
use Rattle.checkpoint_changes.proofs.TogetherLaws.{any_chosen, any_other}
use Rattle.checkpoint_changes.proofs.drafts.one_collides_in.Goals as goal

pub returns-then-one_collides : goal.returns-then-one_collides
returns-then-one_collides c =
    rw (← c.as_slice-pending.ensures) (any_chosen (collides c.args.doubts.now c.as_slice-pending.result.now) c.args.book.now.entries c.as_slice.result.now c.args.book.now.others c.one_collides.result c.as_slice.ensures c.one_collides.ensures c.if-one_collides.ensures)

pub returns-else-one_collides : goal.returns-else-one_collides
returns-else-one_collides c =
    rw (← c.as_slice-pending.ensures)
    (any_other (collides c.args.doubts.now c.as_slice-pending.result.now) c.args.book.now.entries c.as_slice.result.now c.args.book.now.others c.as_slice-else-one_collides.result.now c.one_collides_among.result
    c.as_slice.ensures c.as_slice-else-one_collides.ensures c.if-one_collides.ensures c.one_collides_among.ensures)
