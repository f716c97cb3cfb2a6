use Rattle.std.proofs.Common.{◌++◌}
use Rattle.checkpoint_records.specs.Books.{sessions}
use Rattle.checkpoint_changes.specs.Differences.{all_placed, placed}
use Rattle.checkpoint_changes.proofs.EachLaws.{each_walked, end_walked, placed_here, placed_of}
use Rattle.checkpoint_changes.proofs.differences.put_into_each.Goals as goal

pub entries_in-before-requires : goal.entries_in-before-requires
entries_in-before-requires c = c.requires

pub loop-session-preserved : goal.loop-session-preserved
loop-session-preserved c =
    let old = sessions c.args.old.now in
    each_walked (placed_of old) c.args.sessions.now c.loop-session.session-index c.session-item.result c.loop-session.delta c.put_placed.new.delta (placed c.session-item.result.name c.entries_in-before.result.now c.as_slice-in-loop-session.result.now) (c.args.delta.now ++ all_placed old c.args.sessions.now)
    c.loop-session-test.true c.session-item.is c.in_ok-put_placed.ensures (placed_here old c.session-item.result c.as_slice.result.now c.entries_in-before.result.now c.as_slice-in-loop-session.result.now c.as_slice.ensures c.as_slice-in-loop-session.ensures c.entries_in-before.ensures) c.loop-session.invariant

pub returns : goal.returns
returns c =
    let old = sessions c.args.old.now in
    end_walked (placed_of old) c.args.sessions.now c.loop-session.session-index c.loop-session.delta (c.args.delta.now ++ all_placed old c.args.sessions.now) c.loop-session-test.false c.loop-session.invariant
