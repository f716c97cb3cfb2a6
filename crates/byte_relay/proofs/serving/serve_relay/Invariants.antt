use Rattle.std.proofs.Common.{◌≡◌}
use Rattle.sm_world.specs.Outside.{NotFallen}
use Rattle.byte_relay.proofs.Running.{InLoop}
use Rattle.byte_relay.proofs.serving.serve_relay.Given as goal

abbrev pub invariant-loop : goal.invariant-loop
invariant-loop g l = record {
  held : InLoop l.fn.to (g.W.Told.outside l.fn.world) (g.W.Told.outside l.world) l.counter l.relay.rows.items;
  order : l.relay.respeller.to ≡ l.fn.to;
  input : (g.W.Told.outside l.world).input ≡ (g.W.Told.outside l.fn.world).input;
  counts : NotFallen (g.W.Told.outside l.fn.world).faults (g.W.Told.outside l.world).faults;
}
