use Rattle.client_quirks.proofs.Joining.{joined_more}
use Rattle.client_quirks.proofs.pieces.joined.Goals as goal

pub loop-piece-preserved : goal.loop-piece-preserved
loop-piece-preserved c = joined_more c.args.pieces.now c.loop-piece.piece-index c.piece-item.result c.as_slice.result.now c.loop-piece.bytes c.append.new.self c.loop-piece-test.true c.piece-item.is c.as_slice.ensures c.loop-piece.invariant c.in_ok-append.ensures.ok
