use Rattle.std.proofs.Common.{◌≡◌, ◌++◌, take, drop}
use Rattle.session_state.specs.Session.{one_more_of}
use Rattle.manager_machine.proofs.connections.raise.Given as goal

abbrev pub invariant-loop-other : goal.invariant-loop-other
invariant-loop-other l = record {
  kept : l.other-items ≡ l.initial.other-items;
  raised : take l.other-index l.other-items ++ one_more_of l.id (drop l.other-index l.other-items) ≡ one_more_of l.id l.initial.other-items;
}
