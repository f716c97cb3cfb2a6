use Rattle.std.proofs.Common.{◌≡◌, ◌++◌, List, length, Ok}
use Rattle.std.specs.List.{AllByRecursion}
use Rattle.sm_world.specs.Outside.{Added, NotFallen}
use Rattle.session_engine.specs.Acts.{CanBeDone}
use Rattle.session_engine.specs.Saved.{Performs}
use Rattle.session_engine.specs.declared.acts.Act.{Act}
use Rattle.session_engine.proofs.shell.Shell.perform_said.Given as goal

abbrev pub invariant-loop-act : goal.invariant-loop-act
invariant-loop-act g l = record {
  performs : (done : List Act) × (done ++ l.left.items ≡ l.fn.said.items) × Added (g.W.Told.outside l.fn.world).told (g.W.Told.outside l.world).told (Performs l.fn.store done (Ok l.store));
  can : AllByRecursion CanBeDone l.left.items;
  size : (g.W.Told.outside l.world).size ≡ (g.W.Told.outside l.fn.world).size;
  coming : (g.W.Told.outside l.world).coming ≡ (g.W.Told.outside l.fn.world).coming;
  input : (g.W.Told.outside l.world).input ≡ (g.W.Told.outside l.fn.world).input;
  first : (g.W.Told.outside l.world).first ≡ (g.W.Told.outside l.fn.world).first;
  counts : NotFallen (g.W.Told.outside l.fn.world).faults (g.W.Told.outside l.world).faults;
}

abbrev pub decreases-loop-act : goal.decreases-loop-act
decreases-loop-act g l = length l.left.items
