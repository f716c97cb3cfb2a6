use Rattle.std.proofs.Common.{◌≡◌, ◌++◌, drop, filter_map}
use Rattle.session_model.specs.Rules.{last_command}
use Rattle.session_clients.specs.Clients.{clients_in}
use Rattle.session_books.proofs.commands.last_commands.Given as goal

abbrev pub invariant-loop-entry : goal.invariant-loop-entry
invariant-loop-entry l = l.commands ++ filter_map (last_command (clients_in l.clients)) (drop l.entry-index l.entry-items) ≡ filter_map (last_command (clients_in l.clients)) l.entries
