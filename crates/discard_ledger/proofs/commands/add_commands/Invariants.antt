use Rattle.std.proofs.Common.{◌≡◌, drop}
use Rattle.discard_ledger.specs.Discards.{with_commands, without_commands}
use Rattle.discard_ledger.proofs.commands.add_commands.Given as goal

abbrev pub invariant-loop-command : goal.invariant-loop-command
invariant-loop-command l = with_commands l.list (without_commands l.gone (drop l.command-index l.commands)) ≡ with_commands l.initial.list (without_commands l.gone l.commands)
