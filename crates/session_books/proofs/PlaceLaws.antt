-- What is found at a place of a list is in the list.
use Rattle.std.proofs.Common.{◌≡◌, ℕ, zero, suc, ◌<◌, Bool, true, false, cond, ◌||◌, List, [], ◌∷◌, Some, length, get_or, refl, sym, ap, ◌∙◌, arith}
use Rattle.std.specs.Prelude.{find, is_some}
use Rattle.std.specs.List.{list_any}

module _ {X : Type 0} (test : X → Bool) where
  pub found_at : (items : List X) (i : ℕ) (x d : X) → i < length items → x ≡ get_or items i d → test x ≡ true → is_some (find test items) ≡ true
  found_at [] i x d within at is = absurd (omega (arith, within))
  found_at (y ∷ items) zero x d within at is = ap (λ (b : Bool). is_some (cond b (Some y) (find test items))) (ap test (sym at) ∙ is)
  found_at (y ∷ items) (suc i) x d within at is = by (test y) (found_at items i x d (omega (arith, within)) at is)
    where
      by : (b : Bool) → is_some (find test items) ≡ true → is_some (cond b (Some y) (find test items)) ≡ true
      by true rest = refl
      by false rest = rest

  pub any_at : (items : List X) (i : ℕ) (x d : X) → i < length items → x ≡ get_or items i d → test x ≡ true → list_any test items ≡ true
  any_at [] i x d within at is = absurd (omega (arith, within))
  any_at (y ∷ items) zero x d within at is = ap (λ (b : Bool). b || list_any test items) (ap test (sym at) ∙ is)
  any_at (y ∷ items) (suc i) x d within at is = by (test y) (any_at items i x d (omega (arith, within)) at is)
    where
      by : (b : Bool) → list_any test items ≡ true → (b || list_any test items) ≡ true
      by true rest = refl
      by false rest = rest
