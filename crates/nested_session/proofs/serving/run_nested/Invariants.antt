use Rattle.std.proofs.Common.{◌≡◌}
use Rattle.sm_world.specs.Outside.{NotFallen}
use Rattle.session_engine.specs.Shown.{IsShown, all_cut}
use Rattle.nested_session.specs.Serving.{run_of}
use Rattle.nested_session.specs.Looping.{InLoop}
use Rattle.nested_session.proofs.serving.run_nested.Given as goal

abbrev pub invariant-loop : goal.invariant-loop
invariant-loop g l = record {
  held : InLoop l.fn.config (run_of l.fn.agent) l.fn.first (g.W.Told.outside l.fn.world) (g.W.Told.outside l.world) l.counter l.nest;
  shown : IsShown all_cut l.nest.session.engine;
  size : (g.W.Told.outside l.world).size ≡ 16777280;
  input : (g.W.Told.outside l.world).input ≡ (g.W.Told.outside l.fn.world).input;
  first : (g.W.Told.outside l.world).first ≡ (g.W.Told.outside l.fn.world).first;
  counts : NotFallen (g.W.Told.outside l.fn.world).faults (g.W.Told.outside l.world).faults;
}
