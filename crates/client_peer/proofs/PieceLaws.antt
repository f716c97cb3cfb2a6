-- Pieces without those that are empty.
use Rattle.std.proofs.Common.{◌≡◌, ◌<◌, ℕ, Bool, true, false, cond, List, [], ◌∷◌, length, refl, arith}
use Rattle.std.specs.Prelude.{filter}
use Rattle.std.specs.List.{AllByRecursion}
use Rattle.client_peer.specs.Pieces.{IsLeft, is_solid, left_of}

solid : (piece : List ℕ) → is_solid piece ≡ true → 0 < length piece
solid piece kept = grind (arith, kept)

all_kept : (b : Bool) (piece : List ℕ) (kept : List (List ℕ)) → is_solid piece ≡ b → AllByRecursion (λ p. 0 < length p) kept → AllByRecursion (λ p. 0 < length p) (cond b (piece ∷ kept) kept)
all_kept true piece kept is all = (solid piece is, all)
all_kept false piece kept is all = all

all_solid : (pieces : List (List ℕ)) → AllByRecursion (λ p. 0 < length p) (filter is_solid pieces)
all_solid [] = tt
all_solid (piece ∷ pieces) = all_kept (is_solid piece) piece (filter is_solid pieces) refl (all_solid pieces)

none_given : (pieces : List (List ℕ)) → AllByRecursion (λ p. 0 < length p) pieces → IsLeft 0 pieces
none_given [] all = refl
none_given (piece ∷ pieces) all = all

pub solid_left : (pieces : List (List ℕ)) → IsLeft 0 (filter is_solid pieces)
solid_left pieces = none_given (filter is_solid pieces) (all_solid pieces)

pub whole_left : (pieces : List (List ℕ)) → left_of 0 pieces ≡ pieces
whole_left [] = refl
whole_left (piece ∷ pieces) = refl
