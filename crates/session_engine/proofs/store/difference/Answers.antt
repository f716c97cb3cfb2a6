use Rattle.std.proofs.Common.{subst}
use Rattle.checkpoint_records.specs.declared.records.Book.{Book}
use Rattle.session_engine.specs.Standing.{as_stored}
use Rattle.session_engine.specs.Store.{Makes}
use Rattle.session_engine.proofs.store.difference.Goals as goal

pub returns-clause-makes : goal.returns-clause-makes
returns-clause-makes c =
    subst (λ (b : Book). Makes b c.in_ok-delta.delta (as_stored c.args.book)) c.in_ok-old.ensures.is
    (subst (λ (b : Book). Makes c.in_ok-old.old c.in_ok-delta.delta b) c.in_ok-new.ensures.is
    (record { changes = c.in_ok-delta.ensures.changes; applied = c.in_ok-delta.ensures.applies; exact = c.in_ok-delta.ensures.exact; plain = c.in_ok-delta.ensures.plain }))
