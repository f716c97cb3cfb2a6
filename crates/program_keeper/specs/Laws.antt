-- The script doesn't depend on how a stream comes in pieces.
use Rattle.std.specs.Prelude.{◌≡◌, ℕ, List, ◌++◌}
use Rattle.client_engine.specs.Driving.{Run, both}
use Rattle.program_keeper.specs.Script.{Keeper, piece_heard}

-- A piece brings what its two parts bring, one after the other.
abbrev pub PiecesMakeNoDifference : Type 0
PiecesMakeNoDifference = (run : Run Keeper) (xs ys : List ℕ) → piece_heard run (xs ++ ys) ≡ both (piece_heard run xs) (piece_heard (piece_heard run xs).next ys)
