-- The first of some words.
use Rattle.std.proofs.Common.{◌≡◌, ℕ, true, List, [], ◌∷◌, drop, length, get_or, refl, ap}
use Rattle.std.specs.Str.{bytes_eq}
use Rattle.std.proofs.lemmas.Slice.Eq.{bytes_eq-Decides}

same_word : (xs ys : List ℕ) → bytes_eq xs ys ≡ true → xs ≡ ys
same_word xs ys e = (bytes_eq-Decides xs ys).0 e

-- the first word is this one
pub begins : (ws : List (List ℕ)) (first : List ℕ) → (length ws ≡ 0 → ⊥) → bytes_eq (get_or ws 0 []) first ≡ true → ws ≡ first ∷ drop 1 ws
begins [] first some e = absurd (some refl)
begins (w ∷ ws) first some e = ap (λ (v : List ℕ). v ∷ ws) (same_word w first e)

pub begins_back : (ws : List (List ℕ)) (first : List ℕ) → ws ≡ first ∷ drop 1 ws → bytes_eq (get_or ws 0 []) first ≡ true
begins_back ws first e = (bytes_eq-Decides (get_or ws 0 []) first).1 (ap (λ (v : List (List ℕ)). get_or v 0 []) e)
