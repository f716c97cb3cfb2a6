use Rattle.std.proofs.Common.{sym}
use Rattle.checkpoint_changes.proofs.TogetherLaws.{still_fit}
use Rattle.checkpoint_changes.proofs.drafts.changed.Goals as goal

pub returns-in-Some-clause-fits : goal.returns-in-Some-clause-fits
returns-in-Some-clause-fits c = λ t. let fit = c.is_fit_for-fits.ensures t in
    rw c.in_ok-doubts.ensures (still_fit c.args.draft.doubts c.args.draft.book c.args.change c.in-Some.book c.requires.parts c.requires.named fit.0 fit.1 (sym (rw c.in-Some.is at c.in_ok-book.ensures)))
