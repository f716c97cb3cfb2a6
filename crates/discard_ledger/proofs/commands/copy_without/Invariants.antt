use Rattle.std.proofs.Common.{◌≡◌, ◌++◌, drop}
use Rattle.discard_ledger.specs.Discards.{without_commands}
use Rattle.discard_ledger.proofs.commands.copy_without.Given as goal

abbrev pub invariant-loop-command : goal.invariant-loop-command
invariant-loop-command l = l.list ++ without_commands l.gone (drop l.command-index l.commands) ≡ without_commands l.gone l.commands
