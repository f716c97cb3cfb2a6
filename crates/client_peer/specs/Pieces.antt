-- A stream that comes in pieces.
use Rattle.std.specs.Prelude.{ℕ, ◌<◌, ◌==◌, ◌≡◌, Bool, not, cond, nat_le, List, [], ◌∷◌, length, take, drop}
use Rattle.std.specs.List.{AllByRecursion}

-- a piece of at least one byte
abbrev pub is_solid : List ℕ → Bool
is_solid piece = not (length piece == 0)

-- as much of the first piece as there is room for
abbrev pub part : ℕ → List (List ℕ) → List ℕ
part room [] = []
part room (piece ∷ pieces) = take room piece

-- what comes after that: the rest of the first piece, where one is left, and the other pieces
abbrev pub after_part : ℕ → List (List ℕ) → List (List ℕ)
after_part room [] = []
after_part room (piece ∷ pieces) = cond (nat_le (length piece) room) pieces (drop room piece ∷ pieces)

-- the pieces without so many bytes of the first one
abbrev pub left_of : ℕ → List (List ℕ) → List (List ℕ)
left_of taken [] = []
left_of taken (piece ∷ pieces) = drop taken piece ∷ pieces

-- Some of the first piece is left, and all of each other one.
abbrev pub IsLeft : ℕ → List (List ℕ) → Type 0
IsLeft taken [] = taken ≡ 0
IsLeft taken (piece ∷ pieces) = (taken < length piece) × AllByRecursion (λ p. 0 < length p) pieces
