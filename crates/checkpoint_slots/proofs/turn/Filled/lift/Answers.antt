use Rattle.std.proofs.Common.{◌≡◌, ◌∷◌, [], ap, ◌∙◌}
use Rattle.checkpoint_slots.specs.Layout.{gate_at}
use Rattle.checkpoint_slots.specs.Turns.{target}
use Rattle.checkpoint_slots.specs.declared.fault.StoreFault.TheVariants.{DiskFault}
use Rattle.checkpoint_slots.proofs.Turning.{added-by, done-at, lifts, lifts-not, put-at}
use Rattle.checkpoint_slots.proofs.turn.Filled.lift.Goals as goal

pub returns-in-Ok-clause-effects : goal.returns-in-Ok-clause-effects
returns-in-Ok-clause-effects g c =
    let place : c.gate.result ≡ gate_at (target c.self.inside.current) = c.gate.ensures ∙ ap gate_at c.target.ensures in
    rw (← c.self.view_is) (added-by (λ added p. lifts (c.self.inside.current, c.self.inside.next) added (done-at (165 ∷ []) place p)) c.in-Ok.ensures.effects)

pub returns-in-Err-clause-effects : goal.returns-in-Err-clause-effects
returns-in-Err-clause-effects g c =
    let place : c.gate.result ≡ gate_at (target c.self.inside.current) = c.gate.ensures ∙ ap gate_at c.target.ensures in
    rw (← c.self.view_is) (added-by (λ added p. lifts-not (c.self.inside.current, c.self.inside.next) DiskFault added (put-at (165 ∷ []) place p)) c.in-Err.ensures.effects)
