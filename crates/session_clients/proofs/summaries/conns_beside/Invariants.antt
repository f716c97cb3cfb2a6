use Rattle.std.proofs.Common.{◌≡◌, ◌++◌, drop, not}
use Rattle.std.specs.Prelude.{filter}
use Rattle.interact_queue.specs.Queue.{is_in}
use Rattle.session_clients.specs.Clients.{conns_in}
use Rattle.session_clients.proofs.summaries.conns_beside.Given as goal

abbrev pub invariant-loop-row : goal.invariant-loop-row
invariant-loop-row l = l.others ++ filter (λ c. not (is_in c l.conns)) (conns_in (drop l.row-index l.rows)) ≡ filter (λ c. not (is_in c l.conns)) (conns_in l.rows)
