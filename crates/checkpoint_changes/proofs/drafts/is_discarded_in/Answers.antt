use Rattle.checkpoint_changes.specs.Together.{discards_by}
use Rattle.checkpoint_changes.proofs.TogetherLaws.{any_chosen, any_other}
use Rattle.checkpoint_changes.proofs.drafts.is_discarded_in.Goals as goal

pub returns-then-is_discarded : goal.returns-then-is_discarded
returns-then-is_discarded c =
    any_chosen (discards_by c.args.command.now) c.args.book.now.entries c.as_slice.result.now c.args.book.now.others c.is_discarded.result c.as_slice.ensures c.is_discarded.ensures c.if-is_discarded.ensures

pub returns-else-is_discarded : goal.returns-else-is_discarded
returns-else-is_discarded c =
    any_other (discards_by c.args.command.now) c.args.book.now.entries c.as_slice.result.now c.args.book.now.others c.as_slice-else-is_discarded.result.now c.is_discarded_among.result
    c.as_slice.ensures c.as_slice-else-is_discarded.ensures c.if-is_discarded.ensures c.is_discarded_among.ensures
