use Rattle.std.proofs.Common.{◌++◌}
use Rattle.checkpoint_records.specs.Books.{sessions}
use Rattle.checkpoint_changes.specs.Differences.{all_gone, gone}
use Rattle.checkpoint_changes.proofs.EachLaws.{each_walked, end_walked, gone_here, gone_of}
use Rattle.checkpoint_changes.proofs.differences.remove_from_each.Goals as goal

pub entries_in-left-requires : goal.entries_in-left-requires
entries_in-left-requires c = c.requires

pub loop-session-preserved : goal.loop-session-preserved
loop-session-preserved c =
    let new = sessions c.args.new.now in
    each_walked (gone_of new) c.args.sessions.now c.loop-session.session-index c.session-item.result c.loop-session.delta c.remove_gone.new.delta (gone c.as_slice-in-loop-session.result.now c.entries_in-left.result.now) (c.args.delta.now ++ all_gone c.args.sessions.now new)
    c.loop-session-test.true c.session-item.is c.in_ok-remove_gone.ensures (gone_here new c.session-item.result c.as_slice.result.now c.as_slice-in-loop-session.result.now c.entries_in-left.result.now c.as_slice.ensures c.as_slice-in-loop-session.ensures c.entries_in-left.ensures) c.loop-session.invariant

pub returns : goal.returns
returns c =
    let new = sessions c.args.new.now in
    end_walked (gone_of new) c.args.sessions.now c.loop-session.session-index c.loop-session.delta (c.args.delta.now ++ all_gone c.args.sessions.now new) c.loop-session-test.false c.loop-session.invariant
