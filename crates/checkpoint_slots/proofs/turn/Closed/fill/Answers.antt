use Rattle.std.proofs.Common.{◌≡◌, ℕ, ap, ◌∙◌}
use Rattle.checkpoint_slots.specs.Layout.{start_of}
use Rattle.checkpoint_slots.specs.Turns.{following, target}
use Rattle.checkpoint_slots.specs.declared.fault.StoreFault.TheVariants.{DiskFault}
use Rattle.checkpoint_slots.proofs.Turning.{added-by, done-at, fills, fills-not, put-at}
use Rattle.checkpoint_slots.proofs.turn.Closed.fill.Goals as goal

pub returns-in-Ok-clause-effects : goal.returns-in-Ok-clause-effects
returns-in-Ok-clause-effects g c =
    let place : c.start.result ≡ start_of (target c.self.inside.current) = c.start.ensures ∙ ap start_of c.target.ensures in
    rw (← c.self.view_is) (added-by (λ added p. fills c.self.inside.current c.args.body.now c.requires.room c.next_current.result added (λ fits. c.next_current.ensures fits ∙ ap (λ (n : ℕ). following c.self.inside.current n) c.len.ensures) (done-at c.args.body.now place (rw (← c.as_slice.ensures) p))) c.in-Ok.ensures.effects)

pub returns-in-Err-clause-effects : goal.returns-in-Err-clause-effects
returns-in-Err-clause-effects g c =
    let place : c.start.result ≡ start_of (target c.self.inside.current) = c.start.ensures ∙ ap start_of c.target.ensures in
    rw (← c.self.view_is) (added-by (λ added p. fills-not c.self.inside.current c.args.body.now c.requires.room DiskFault added (put-at c.args.body.now place (rw (← c.as_slice.ensures) p))) c.in-Err.ensures.effects)
