use Rattle.std.proofs.Common.{◌≡◌, ◌++◌, drop}
use Rattle.checkpoint_changes.specs.Differences.{placed}
use Rattle.checkpoint_changes.proofs.differences.put_placed.Given as goal

abbrev pub invariant-loop-entry : goal.invariant-loop-entry
invariant-loop-entry l = l.delta ++ placed l.name (drop l.entry-index l.old) l.left ≡ l.fn.delta ++ placed l.name l.old l.new
