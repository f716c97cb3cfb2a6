use Rattle.std.proofs.Common.{◌≡◌, length}
use Rattle.sm_world.specs.declared.events.Event.TheVariants.{Piece}
use Rattle.sm_world.specs.Outside.{NotFallen}
use Rattle.session_engine.specs.Machine.{Machine, step}
use Rattle.session_engine.specs.Shown.{Shows, all_cut}
use Rattle.session_engine.proofs.Pieces.{Taking}
use Rattle.session_engine.proofs.serving.take_piece.Given as goal

-- for each machine that the session showed before the piece
abbrev pub invariant-loop-left : goal.invariant-loop-left
invariant-loop-left g l = record {
  taking : (m : Machine) → Shows all_cut l.fn.engine m → Taking (step m (Piece l.conn l.bytes)) l.conn l.left (g.W.Told.outside l.fn.world).told (g.W.Told.outside l.world).told l.engine l.fn.store l.store l.turn;
  size : (g.W.Told.outside l.world).size ≡ (g.W.Told.outside l.fn.world).size;
  coming : (g.W.Told.outside l.world).coming ≡ (g.W.Told.outside l.fn.world).coming;
  input : (g.W.Told.outside l.world).input ≡ (g.W.Told.outside l.fn.world).input;
  first : (g.W.Told.outside l.world).first ≡ (g.W.Told.outside l.fn.world).first;
  counts : NotFallen (g.W.Told.outside l.fn.world).faults (g.W.Told.outside l.world).faults;
}

abbrev pub decreases-loop-left : goal.decreases-loop-left
decreases-loop-left g l = length l.left
