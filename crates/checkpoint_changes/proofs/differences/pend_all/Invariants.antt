use Rattle.std.proofs.Common.{◌≡◌, ◌++◌, map, drop}
use Rattle.checkpoint_changes.specs.declared.changes.Change.TheVariants.{Pend}
use Rattle.checkpoint_changes.proofs.differences.pend_all.Given as goal

abbrev pub invariant-loop-command : goal.invariant-loop-command
invariant-loop-command l = l.delta ++ map (λ command. Pend command) (drop l.command-index l.commands) ≡ l.fn.delta ++ map (λ command. Pend command) l.commands
