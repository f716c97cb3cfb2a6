use Rattle.std.proofs.Common.{◌≡◌, length}
use Rattle.byte_relay.proofs.Passed.{Middle}
use Rattle.byte_relay.proofs.passing.pass.Given as goal

abbrev pub invariant-loop-left : goal.invariant-loop-left
invariant-loop-left g l = record {
  middle : Middle l.fn.respeller.to l.other l.fn.row l.piece (g.W.Told.outside l.fn.world) (g.W.Told.outside l.world) l.row l.left;
  conn : l.row.conn ≡ l.fn.row.conn;
  to : l.respeller.to ≡ l.fn.respeller.to;
}

abbrev pub decreases-loop-left : goal.decreases-loop-left
decreases-loop-left g l = length l.left
