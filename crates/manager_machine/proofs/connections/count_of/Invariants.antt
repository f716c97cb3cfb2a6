use Rattle.std.proofs.Common.{◌≡◌, drop}
use Rattle.session_state.specs.Session.{counted}
use Rattle.manager_machine.proofs.connections.count_of.Given as goal

abbrev pub invariant-loop-other : goal.invariant-loop-other
invariant-loop-other l = counted l.id (drop l.other-index l.counts) ≡ counted l.id l.counts
