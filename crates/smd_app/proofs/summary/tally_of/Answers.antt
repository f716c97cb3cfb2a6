use Rattle.smd_app.proofs.Counting.{came_more, sent_more, opened_more}
use Rattle.smd_app.proofs.summary.tally_of.Goals as goal

pub loop-effect-preserved : goal.loop-effect-preserved
loop-effect-preserved c =
    record {
      events = came_more c.args.effects.now c.loop-effect.effect-index c.effect-item.result c.loop-effect.tally.events c.in_ok-next.next.events c.loop-effect-test.true c.effect-item.is c.loop-effect.invariant.events c.in_ok-next.ensures.events;
      bytes = sent_more c.args.effects.now c.loop-effect.effect-index c.effect-item.result c.loop-effect.tally.bytes c.in_ok-next.next.bytes c.loop-effect-test.true c.effect-item.is c.loop-effect.invariant.bytes c.in_ok-next.ensures.bytes;
      commits = opened_more c.args.effects.now c.loop-effect.effect-index c.effect-item.result c.loop-effect.tally.commits c.in_ok-next.next.commits c.loop-effect-test.true c.effect-item.is c.loop-effect.invariant.commits c.in_ok-next.ensures.commits;
    }
