use Rattle.std.proofs.Common.{◌≡◌, ◌++◌, List, length}
use Rattle.std.specs.List.{AllByRecursion}
use Rattle.manager_machine.specs.Keeper.{AreFit}
use Rattle.session_model.specs.declared.events.Act.{Act as SessionAct}
use Rattle.session_engine.specs.Acts.{CanBeDone, acts_for_all}
use Rattle.session_engine.proofs.act_list.put_behind.Given as goal

abbrev pub invariant-loop-act : goal.invariant-loop-act
invariant-loop-act l = record {
  puts : (done : List SessionAct) × (done ++ l.left.items ≡ l.fn.did) × (l.said.items ≡ l.fn.said.items ++ acts_for_all done);
  fit : AreFit l.left.items;
  can : AllByRecursion CanBeDone l.said.items;
}

abbrev pub decreases-loop-act : goal.decreases-loop-act
decreases-loop-act l = length l.left.items
