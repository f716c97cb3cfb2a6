use Rattle.std.proofs.Common.{◌≡◌, ◌++◌, drop}
use Rattle.std.specs.Prelude.{flat_map}
use Rattle.session_model.specs.Replies.{depart}
use Rattle.session_state.specs.Session.{reading_in}
use Rattle.manager_machine.specs.Answers.{departures_moves}
use Rattle.manager_machine.proofs.session_core.Core.departures.Given as goal

abbrev pub invariant-loop-conn : goal.invariant-loop-conn
invariant-loop-conn l = departures_moves l.departures ++ flat_map (depart (reading_in l.self)) (drop l.conn-index l.conns) ≡ flat_map (depart (reading_in l.self)) l.conns
