use Rattle.std.proofs.Common.{◌≡◌, ◌++◌, drop}
use Rattle.std.specs.Prelude.{filter_map, map, option_map}
use Rattle.session_clients.specs.Clients.{id_in}
use Rattle.session_clients.specs.Ids.{registered_under}
use Rattle.session_clients.proofs.registered_ids.RegisteredIds.among.Given as goal

abbrev pub invariant-loop-conn : goal.invariant-loop-conn
invariant-loop-conn l =
    map (λ k. registered_under k.conn k.id) l.ids.items ++ filter_map (λ c. option_map (registered_under c) (id_in c l.rows)) (drop l.conn-index l.conns)
    ≡ filter_map (λ c. option_map (registered_under c) (id_in c l.rows)) l.conns
