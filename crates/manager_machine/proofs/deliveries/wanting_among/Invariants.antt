use Rattle.std.proofs.Common.{◌≡◌, ◌++◌, drop, filter}
use Rattle.session_clients.specs.Clients.{phase_in}
use Rattle.manager_machine.specs.Order.{wants_second}
use Rattle.manager_machine.proofs.deliveries.wanting_among.Given as goal

abbrev pub invariant-loop-conn : goal.invariant-loop-conn
invariant-loop-conn l = l.wanting ++ filter (λ c. wants_second (phase_in c l.clients.rows)) (drop l.conn-index l.conns) ≡ filter (λ c. wants_second (phase_in c l.clients.rows)) l.conns
