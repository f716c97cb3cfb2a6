use Rattle.std.proofs.Common.{◌≡◌, ◌++◌, drop}
use Rattle.std.specs.Prelude.{filter_map}
use Rattle.discard_ledger.specs.Discards.{discard_of}
use Rattle.session_clients.specs.Clients.{table_in}
use Rattle.session_clients.proofs.summaries.discards_in.Given as goal

abbrev pub invariant-loop-conn : goal.invariant-loop-conn
invariant-loop-conn l = l.commands ++ filter_map (λ c. discard_of (table_in c l.rows)) (drop l.conn-index l.conns) ≡ filter_map (λ c. discard_of (table_in c l.rows)) l.conns
