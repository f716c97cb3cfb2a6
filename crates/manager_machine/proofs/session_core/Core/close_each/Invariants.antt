use Rattle.std.proofs.Common.{◌≡◌, drop, map}
use Rattle.session_model.specs.Moves.{Closed}
use Rattle.session_state.specs.Session.{moved_all}
use Rattle.manager_machine.proofs.session_core.Core.close_each.Given as goal

abbrev pub invariant-loop-conn : goal.invariant-loop-conn
invariant-loop-conn l = moved_all (map Closed (drop l.conn-index l.conns)) l.self ≡ moved_all (map Closed l.conns) l.initial.self
