use Rattle.std.proofs.Common.{◌≡◌, ◌++◌, List, length, Ok}
use Rattle.sm_world.specs.Outside.{Added, NotFallen}
use Rattle.manager_machine.specs.Keeper.{AreFit}
use Rattle.session_model.specs.declared.events.Act.{Act as SessionAct}
use Rattle.session_engine.specs.Acts.{acts_for_all}
use Rattle.session_engine.specs.Saved.{Performs}
use Rattle.session_engine.proofs.shell.Shell.perform_did.Given as goal

abbrev pub invariant-loop-act : goal.invariant-loop-act
invariant-loop-act g l = record {
  performs : (done : List SessionAct) × (done ++ l.left.items ≡ l.fn.did.items) × Added (g.W.Told.outside l.fn.world).told (g.W.Told.outside l.world).told (Performs l.fn.store (acts_for_all done) (Ok l.store));
  fit : AreFit l.left.items;
  size : (g.W.Told.outside l.world).size ≡ (g.W.Told.outside l.fn.world).size;
  coming : (g.W.Told.outside l.world).coming ≡ (g.W.Told.outside l.fn.world).coming;
  input : (g.W.Told.outside l.world).input ≡ (g.W.Told.outside l.fn.world).input;
  first : (g.W.Told.outside l.world).first ≡ (g.W.Told.outside l.fn.world).first;
  counts : NotFallen (g.W.Told.outside l.fn.world).faults (g.W.Told.outside l.world).faults;
}

abbrev pub decreases-loop-act : goal.decreases-loop-act
decreases-loop-act g l = length l.left.items
