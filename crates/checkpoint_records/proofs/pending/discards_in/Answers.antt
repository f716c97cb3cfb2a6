use Rattle.checkpoint_records.proofs.PlaceLaws.{discards_walked}
use Rattle.checkpoint_records.proofs.pending.discards_in.Goals as goal

pub loop-session-preserved : goal.loop-session-preserved
loop-session-preserved c =
    discards_walked c.args.sessions.now c.loop-session.session-index c.session-item.result c.as_slice.result.now c.loop-session.commands c.add_discards.new.commands c.loop-session-test.true c.session-item.is
    c.as_slice.ensures c.in_ok-add_discards.ensures c.loop-session.invariant
