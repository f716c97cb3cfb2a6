use Rattle.std.proofs.Common.{◌∙◌}
use Rattle.checkpoint_changes.proofs.FoundLaws.{unpended_none, unpended_some}
use Rattle.checkpoint_changes.proofs.applying.unpended.Goals as goal

pub returns-in_err-pending : goal.returns-in_err-pending
returns-in_err-pending c = c.from_residual.ensures ∙ unpended_none c.args.book c.args.place c.in_err-pending.ensures

pub returns : goal.returns
returns c = unpended_some c.args.book c.args.place c.in_ok-pending.pending c.in_ok-pending.ensures
