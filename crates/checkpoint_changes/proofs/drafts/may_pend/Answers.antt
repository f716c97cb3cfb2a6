use Rattle.checkpoint_changes.proofs.TogetherLaws.{pend_fits}
use Rattle.checkpoint_changes.proofs.drafts.may_pend.Goals as goal

pub returns : goal.returns
returns c =
    pend_fits c.args.book.now c.args.command.now c.as_slice-pending.result.now c.is_among.result c.is_discarded_in.result c.as_slice-pending.ensures c.is_among.ensures c.if-is_among.false c.is_discarded_in.ensures
