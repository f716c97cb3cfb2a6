use Rattle.std.proofs.Common.{◌≡◌, ◌++◌, drop}
use Rattle.checkpoint_changes.specs.Differences.{gone}
use Rattle.checkpoint_changes.proofs.differences.remove_gone.Given as goal

abbrev pub invariant-loop-entry : goal.invariant-loop-entry
invariant-loop-entry l = l.delta ++ gone (drop l.entry-index l.old) l.left ≡ l.fn.delta ++ gone l.old l.new
