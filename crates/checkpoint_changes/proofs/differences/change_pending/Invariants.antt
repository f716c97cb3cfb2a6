use Rattle.std.proofs.Common.{◌≡◌, ◌≤◌, ◌++◌, drop}
use Rattle.checkpoint_changes.specs.Differences.{pending_changes}
use Rattle.checkpoint_changes.proofs.differences.change_pending.Given as goal

abbrev pub invariant-loop-command : goal.invariant-loop-command
invariant-loop-command l = (l.kept ≤ l.command-index) × (l.delta ++ pending_changes l.kept (drop l.command-index l.old) l.left ≡ l.fn.delta ++ pending_changes 0 l.old l.new)
