use Rattle.std.proofs.Common.{length}
use Rattle.ice_framing.specs.Frames.{fed, behind, cut}
use Rattle.ice_framing.proofs.Pieces.{Going}
use Rattle.ice_framing.proofs.cutting.cut_piece.Given as goal

abbrev pub invariant-loop-rest : goal.invariant-loop-rest
invariant-loop-rest l = Going (behind l.fn.frames (cut (fed l.fn.splitter l.piece))) l.frames l.splitter l.rest

abbrev pub decreases-loop-rest : goal.decreases-loop-rest
decreases-loop-rest l = length l.rest
