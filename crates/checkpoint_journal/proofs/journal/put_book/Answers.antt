use Rattle.checkpoint_slots.proofs.Turning.{added-by}
use Rattle.checkpoint_journal.proofs.Appended.{compacted-unclosed, compacted-unfilled, compacted-whole}
use Rattle.checkpoint_journal.proofs.Written.{added-three, added-two}
use Rattle.checkpoint_journal.proofs.journal.put_book.Goals as goal

pub returns-in-Err-clause-effects : goal.returns-in-Err-clause-effects
returns-in-Err-clause-effects g c = added-by (λ added closes. compacted-unclosed c.args.steady c.args.body.now c.in-Err.fault added closes) c.in-Err.ensures.effects

pub returns-in-Err-fill-clause-effects : goal.returns-in-Err-fill-clause-effects
returns-in-Err-fill-clause-effects g c =
    added-two (λ cs fs closes fills. compacted-unfilled c.args.steady c.in-Ok.closed c.args.body.now c.in-Err-fill.fault cs fs c.in-Ok.ensures.same closes fills) c.in-Ok.ensures.effects c.in-Err-fill.ensures.effects

pub returns-clause-effects : goal.returns-clause-effects
returns-clause-effects g c =
    added-three (λ cs fs ls closes fills lifts. compacted-whole c.args.steady c.in-Ok.closed c.in-Ok-fill.filled c.args.body.now c.lift.result cs fs ls c.in-Ok.ensures.same c.in-Ok-fill.ensures.same c.in-Ok-fill.ensures.next c.lift.ensures.next closes fills lifts) c.in-Ok.ensures.effects c.in-Ok-fill.ensures.effects c.lift.ensures.effects
