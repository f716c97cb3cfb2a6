use Rattle.std.proofs.Common.{◌++◌}
use Rattle.checkpoint_changes.specs.Differences.{gone}
use Rattle.checkpoint_changes.proofs.DifferenceLaws.{gone_all, gone_on, kept_on}
use Rattle.checkpoint_changes.proofs.differences.remove_gone.Goals as goal
use Rattle.checkpoint_changes.proofs.differences.remove_gone.Goals.{in-Some, in-None+in_ok-copy-in-None+in_ok-push-in-None}

pub loop-entry-preserved : goal.loop-entry-preserved
loop-entry-preserved c = elim c.match-next_with.branch [
  | in-Some w ↦ rw (w.delta-is, w.left-is) (
      kept_on c.args.old.now c.loop-entry.left.now c.loop-entry.entry-index c.entry-item.result w.in-Some._next.now w.in-Some.others.now c.as_slice.result.now c.loop-entry.delta (c.args.delta.now ++ gone c.args.old.now c.args.new.now)
      c.loop-entry-test.true c.entry-item.is c.as_slice.ensures w.in-Some.ensures.some.0 w.in-Some.ensures.some.1 c.loop-entry.invariant)
  | in-None+in_ok-copy-in-None+in_ok-push-in-None w ↦ rw (w.delta-is, w.left-is) (
      gone_on c.args.old.now c.loop-entry.left.now c.loop-entry.entry-index c.entry-item.result c.as_slice.result.now w.in_ok-copy-in-None.field-0 c.loop-entry.delta w.push.new.self (c.args.delta.now ++ gone c.args.old.now c.args.new.now)
      c.loop-entry-test.true c.entry-item.is c.as_slice.ensures w.in_ok-copy-in-None.ensures w.in-None.ensures.none w.in_ok-push-in-None.ensures.ok c.loop-entry.invariant)
]

pub returns : goal.returns
returns c = gone_all c.args.old.now c.loop-entry.left.now c.loop-entry.entry-index c.loop-entry.delta (c.args.delta.now ++ gone c.args.old.now c.args.new.now) c.loop-entry-test.false c.loop-entry.invariant
