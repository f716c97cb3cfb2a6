use Rattle.std.proofs.Common.{◌≡◌, ◌-◌}
use Rattle.session_state.specs.Session.{settle_in}
use Rattle.manager_machine.specs.Order.{SettlesInOrder}
use Rattle.manager_machine.proofs.session_core.Core.settle.Given as goal

abbrev pub invariant-loop-rule : goal.invariant-loop-rule
invariant-loop-rule l = record {
  settled : settle_in (l.limit - l._rule) l.self ≡ settle_in l.limit l.initial.self;
  in_order : SettlesInOrder l.self;
}
