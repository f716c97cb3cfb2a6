use Rattle.std.proofs.Common.{◌+◌, ◌∙◌, sym, ap}
use Rattle.sm_world.specs.declared.effects.Effect.TheVariants.{Wrote}
use Rattle.checkpoint_slots.specs.Turns.{opened_by}
use Rattle.smd_app.proofs.summary.Tally.with.Goals as goal

pub returns-in_ok-plus-in-Wrote-clause-commits : goal.returns-in_ok-plus-in-Wrote-clause-commits
returns-in_ok-plus-in-Wrote-clause-commits c =
    c.in_ok-plus-in-Wrote.ensures
    ∙ ap (λ n. c.args.self.commits + n) (c.opens_gate.ensures c.in-Wrote.field-0 ∙ (ap (λ bytes. opened_by (Wrote c.in-Wrote.field-0 bytes)) c.as_slice.ensures ∙ ap opened_by (sym c.in-Wrote.is)))
