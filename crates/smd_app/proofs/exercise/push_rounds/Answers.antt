use Rattle.smd_app.specs.Exercises.{round_events}
use Rattle.smd_app.proofs.Exercising.{one_more}
use Rattle.smd_app.proofs.exercise.push_rounds.Goals as goal

pub loop-count-preserved : goal.loop-count-preserved
loop-count-preserved c =
    one_more (round_events c.args.exercise.pattern) c.loop-count.count c.args.events.now c.loop-count.events c.push_round.new.events c.loop-count.invariant c.in_ok-push_round.ensures
