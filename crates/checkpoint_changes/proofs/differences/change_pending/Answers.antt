use Rattle.std.proofs.Common.{◌++◌, arith}
use Rattle.std.proofs.lemmas.Result.{on_ok_weaker}
use Rattle.checkpoint_changes.specs.Differences.{pending_changes}
use Rattle.checkpoint_changes.proofs.DifferenceLaws.{goes_more, pending_turned, stays_more}
use Rattle.checkpoint_changes.proofs.differences.change_pending.Goals as goal
use Rattle.checkpoint_changes.proofs.differences.change_pending.Goals.{in-Some, in-None+in_ok-push-in-None}

pub loop-command-preserved : goal.loop-command-preserved
loop-command-preserved c = elim c.match-behind_equal.branch [
  | in-Some w ↦ rw (w.delta-is, w.left-is, w.kept-is) (
    omega (arith, c.loop-command.invariant.0),
    stays_more c.loop-command.kept c.args.old.now c.loop-command.left.now c.loop-command.command-index c.command-item.result w.in-Some.others.now c.loop-command.delta (c.args.delta.now ++ pending_changes 0 c.args.old.now c.args.new.now)
        c.loop-command-test.true c.command-item.is w.in-Some.ensures.some c.loop-command.invariant.1,
  )
  | in-None+in_ok-push-in-None w ↦ rw (w.delta-is, w.left-is, w.kept-is) (
    omega (arith, c.loop-command.invariant.0),
    goes_more c.loop-command.kept c.args.old.now c.loop-command.left.now c.loop-command.command-index c.command-item.result c.loop-command.delta w.push.new.self (c.args.delta.now ++ pending_changes 0 c.args.old.now c.args.new.now)
        c.loop-command-test.true c.command-item.is w.in-None.ensures.none w.in_ok-push-in-None.ensures.ok c.loop-command.invariant.1,
  )
]

pub returns : goal.returns
returns c =
    on_ok_weaker c.pend_all.result (λ h.
    pending_turned c.loop-command.kept c.args.old.now c.args.new.now c.loop-command.left.now c.loop-command.command-index c.args.delta.now c.loop-command.delta c.pend_all.new.delta c.requires.few c.requires.fit c.requires.old_differ c.requires.new_differ c.loop-command-test.false c.loop-command.invariant.1 h) c.pend_all.ensures
