use Rattle.sm_world.proofs.Tracking.{shown_further}
use Rattle.sm_world.specs.Crash.{cell_from}
use Rattle.sm_world.specs.Choices.{IsTracked, held_from}
use Rattle.std.proofs.Common.{◌≡◌, List, take, take_all, subst, arith}
use Rattle.sm_world.specs.declared.effects.Effect.{Effect}
use Rattle.sm_world.proofs.crash.Track.through.Goals as goal

pub loop-effect-preserved : goal.loop-effect-preserved
loop-effect-preserved c cell held was =
    let seen = take c.loop-effect.effect-index c.args.effects.now in
    shown_further c.args.fill c.args.place c.args.effects.now c.loop-effect.effect-index c.effect-item.result cell held c.after-track.result c.loop-effect-test.true c.effect-item.is (c.after-track.ensures (cell_from cell seen c.args.place) (held_from held seen c.args.place) (c.loop-effect.invariant cell held was))

pub returns : goal.returns
returns c cell held was =
    let all : take c.loop-effect.effect-index c.args.effects.now ≡ c.args.effects.now = take_all _ _ (omega (arith, c.loop-effect-test.false)) in
    subst (λ (es : List Effect). IsTracked c.args.fill (cell_from cell es c.args.place) (held_from held es c.args.place) c.loop-effect.track) all (c.loop-effect.invariant cell held was)
