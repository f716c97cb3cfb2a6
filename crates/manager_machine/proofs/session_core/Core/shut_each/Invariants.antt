use Rattle.std.proofs.Common.{◌≡◌, length}
use Rattle.session_state.specs.Session.{moved_all}
use Rattle.manager_machine.specs.Answers.{departures_moves}
use Rattle.manager_machine.proofs.session_core.Core.shut_each.Given as goal

abbrev pub invariant-loop-departure : goal.invariant-loop-departure
invariant-loop-departure l = moved_all (departures_moves l.left.items) l.self ≡ moved_all (departures_moves l.fn.departures) l.fn.self

abbrev pub decreases-loop-departure : goal.decreases-loop-departure
decreases-loop-departure l = length l.left.items
