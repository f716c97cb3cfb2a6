use Rattle.std.proofs.Common.{drop}
use Rattle.std.specs.List.{concat}
use Rattle.ice_framing.specs.Frames.{beginning, fed, behind, cut}
use Rattle.ice_framing.proofs.Pieces.{Going}
use Rattle.ice_framing.proofs.cutting.cut_pieces.Given as goal

abbrev pub invariant-loop-piece : goal.invariant-loop-piece
invariant-loop-piece l = Going (behind l.fn.frames (cut (fed beginning (concat l.pieces)))) l.frames l.splitter (concat (drop l.piece-index l.pieces))
