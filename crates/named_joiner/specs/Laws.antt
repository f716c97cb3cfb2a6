-- The script doesn't depend on how a stream comes in pieces.
use Rattle.std.specs.Prelude.{◌≡◌, ℕ, List, ◌++◌, length}
use Rattle.ice_framing.specs.Frames.{fed}
use Rattle.ice_framing.specs.Parts.{parts_at}
use Rattle.client_engine.specs.Driving.{Run, both}
use Rattle.named_joiner.specs.Script.{Keeper, Replies, piece_heard}

-- A piece brings what its two parts bring, one after the other, where the callbacks say the same at each part of the stream.
abbrev pub PiecesMakeNoDifference : Type 0
PiecesMakeNoDifference = (run : Run Keeper) (xs ys : List ℕ) (rs qs : List Replies) → length rs ≡ length (parts_at (fed run.standing xs)) → piece_heard run (xs ++ ys) (rs ++ qs) ≡ both (piece_heard run xs rs) (piece_heard (piece_heard run xs rs).next ys qs)
