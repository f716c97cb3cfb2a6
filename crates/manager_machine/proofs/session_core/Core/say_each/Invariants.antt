use Rattle.std.proofs.Common.{◌≡◌, drop}
use Rattle.session_model.specs.Moves.{gave_each}
use Rattle.session_state.specs.Session.{moved_all}
use Rattle.manager_machine.proofs.session_core.Core.say_each.Given as goal

abbrev pub invariant-loop-conn : goal.invariant-loop-conn
invariant-loop-conn l = moved_all (gave_each l.message (drop l.conn-index l.conns)) l.self ≡ moved_all (gave_each l.message l.conns) l.initial.self
