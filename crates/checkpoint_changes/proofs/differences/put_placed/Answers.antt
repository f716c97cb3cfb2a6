use Rattle.std.proofs.Common.{◌++◌}
use Rattle.std.proofs.lemmas.Result.{on_ok_weaker}
use Rattle.checkpoint_changes.specs.Differences.{placed}
use Rattle.checkpoint_changes.proofs.DifferenceLaws.{changed_on, passed_on, placed_all}
use Rattle.checkpoint_changes.proofs.differences.put_placed.Goals as goal
use Rattle.checkpoint_changes.proofs.differences.put_placed.Goals.{in-Some+in_ok-change_entry-in-Some, in-None}

pub loop-entry-preserved : goal.loop-entry-preserved
loop-entry-preserved c = elim c.match-next_with.branch [
  | in-Some+in_ok-change_entry-in-Some w ↦ rw (w.delta-is, w.left-is) (
      changed_on c.args.name.now c.args.old.now c.loop-entry.left.now c.loop-entry.entry-index c.entry-item.result w.in-Some.next.now w.in-Some.others.now c.as_slice.result.now c.loop-entry.delta w.change_entry.new.delta (c.args.delta.now ++ placed c.args.name.now c.args.old.now c.args.new.now)
      c.loop-entry-test.true c.entry-item.is c.as_slice.ensures w.in-Some.ensures.some.0 w.in-Some.ensures.some.1 w.in_ok-change_entry-in-Some.ensures c.loop-entry.invariant)
  | in-None w ↦ rw (w.delta-is, w.left-is) (
      passed_on c.args.name.now c.args.old.now c.loop-entry.left.now c.loop-entry.entry-index c.entry-item.result c.as_slice.result.now c.loop-entry.delta (c.args.delta.now ++ placed c.args.name.now c.args.old.now c.args.new.now)
      c.loop-entry-test.true c.entry-item.is c.as_slice.ensures w.in-None.ensures.none c.loop-entry.invariant)
]

pub returns : goal.returns
returns c =
    on_ok_weaker c.put_all.result (λ h.
    placed_all c.args.name.now c.args.old.now c.loop-entry.left.now c.loop-entry.entry-index c.loop-entry.delta c.put_all.new.delta (c.args.delta.now ++ placed c.args.name.now c.args.old.now c.args.new.now) c.loop-entry-test.false c.loop-entry.invariant h) c.put_all.ensures
