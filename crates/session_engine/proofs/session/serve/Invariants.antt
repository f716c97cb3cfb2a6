use Rattle.std.proofs.Common.{◌≡◌}
use Rattle.sm_world.specs.Outside.{NotFallen}
use Rattle.session_engine.specs.Shown.{IsShown, all_cut}
use Rattle.session_engine.proofs.Loop.{InLoop, together}
use Rattle.session_engine.proofs.session.serve.Given as goal

abbrev pub invariant-loop : goal.invariant-loop
invariant-loop g l = record {
  held : InLoop l.fn.config (g.W.Told.outside l.fn.world) (g.W.Told.outside l.world) l.counter (together l.engine l.shell l.store);
  shown : IsShown all_cut l.engine;
  size : (g.W.Told.outside l.world).size ≡ 16777280;
  input : (g.W.Told.outside l.world).input ≡ (g.W.Told.outside l.fn.world).input;
  first : (g.W.Told.outside l.world).first ≡ (g.W.Told.outside l.fn.world).first;
  counts : NotFallen (g.W.Told.outside l.fn.world).faults (g.W.Told.outside l.world).faults;
}
