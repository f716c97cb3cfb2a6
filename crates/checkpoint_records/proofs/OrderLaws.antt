-- Lists of items whose spellings begin the same bytes: the shorter is the front of the longer.
use Rattle.std.proofs.Common.{◌≡◌, ℕ, ◌<◌, ◌≤◌, inl, inr, List, [], ◌∷◌, ◌++◌, length, Option, refl, sym, ap, ap₂, ◌∙◌, subst, append_assoc, arith}
use Rattle.std.specs.Prelude.{flat_map}
use Rattle.std.proofs.lemmas.Bool.{cases_lt}
use Rattle.std.proofs.lemmas.List.{append-nil}
use Rattle.ice_values.specs.Cells.{Cells, zeros}
use Rattle.ice_values.specs.Reading.{Exact}
use Rattle.ice_values.proofs.CellLaws.{Begins-zeros, zeros-append}
use Rattle.ice_values.proofs.OptionLaws.{some_is}
use Rattle.checkpoint_records.specs.Finding.{IsStuck}

-- the spellings of two items that begin the same bytes are of one item
abbrev pub AreOnce : {A : Type 0} → (A → Cells) → (A → Type 0) → Type 0
AreOnce {A} cells Fits = (x y : A) (xs ys : List ℕ) → Fits x → Fits y → zeros (cells x) ++ xs ≡ zeros (cells y) ++ ys → (x ≡ y) × (xs ≡ ys)

pub exact_once : {A : Type 0} (cells : A → Cells) (Fits : A → Type 0) (read : List ℕ → Option (A × List ℕ)) → Exact cells Fits read → AreOnce cells Fits
exact_once {A} cells Fits read exact x y xs ys fit_x fit_y is =
    let a = exact.again (zeros (cells x) ++ xs) x xs fit_x (Begins-zeros (cells x) xs) in
    let b = exact.again (zeros (cells y) ++ ys) y ys fit_y (Begins-zeros (cells y) ys) in
    let e : ◌≡◌ {A = A × List ℕ} (x, xs) (y, ys) = some_is (x, xs) (y, ys) (sym a ∙ ap read is ∙ b) in
    (ap (λ (p : A × List ℕ). p.0) e, ap (λ (p : A × List ℕ). p.1) e)

pub cons-zeros : {A : Type 0} (cells : A → Cells) (x : A) (xs : List A) (r : List ℕ) → zeros (flat_map cells (x ∷ xs)) ++ r ≡ zeros (cells x) ++ (zeros (flat_map cells xs) ++ r)
cons-zeros cells x xs r = ap (λ (l : List ℕ). l ++ r) (zeros-append (cells x) (flat_map cells xs)) ∙ append_assoc (zeros (cells x)) (zeros (flat_map cells xs)) r

-- the spellings of two items that may stand behind the same items, and that begin the same bytes, are of one item
abbrev pub AreOnceBehind : {A : Type 0} → (A → Cells) → (List A → Type 0) → Type 0
AreOnceBehind {A} cells Keep = (front : List A) (x y : A) (xs ys : List ℕ) → Keep (front ++ x ∷ []) → Keep (front ++ y ∷ []) → zeros (cells x) ++ xs ≡ zeros (cells y) ++ ys → (x ≡ y) × (xs ≡ ys)

module _ {A : Type 0} (cells : A → Cells) (Keep : List A → Type 0) (less : (xs more : List A) → Keep (xs ++ more) → Keep xs) (once : AreOnceBehind cells Keep) where
  one-behind : (front xs : List A) (x : A) → Keep (front ++ x ∷ xs) → Keep ((front ++ x ∷ []) ++ xs)
  one-behind front xs x keep = subst Keep (sym (append_assoc front (x ∷ []) xs)) keep

  first-kept : (front xs : List A) (x : A) → Keep (front ++ x ∷ xs) → Keep (front ++ x ∷ [])
  first-kept front xs x keep = less (front ++ x ∷ []) xs (one-behind front xs x keep)

  pub shorter : (front xs ys : List A) (r s : List ℕ) → Keep (front ++ xs) → Keep (front ++ ys) → zeros (flat_map cells xs) ++ r ≡ zeros (flat_map cells ys) ++ s → length xs ≤ length ys
      → (more : List A) × (ys ≡ xs ++ more) × (r ≡ zeros (flat_map cells more) ++ s)
  shorter front [] ys r s keep_xs keep_ys is le = (ys, refl, is)
  shorter front (x ∷ xs) [] r s keep_xs keep_ys is le = absurd (omega arith)
  shorter front (x ∷ xs) (y ∷ ys) r s keep_xs keep_ys is le =
      let h = once front x y (zeros (flat_map cells xs) ++ r) (zeros (flat_map cells ys) ++ s) (first-kept front xs x keep_xs) (first-kept front ys y keep_ys) (sym (cons-zeros cells x xs r) ∙ is ∙ cons-zeros cells y ys s) in
      let k = shorter (front ++ x ∷ []) xs ys r s (one-behind front xs x keep_xs) (subst (λ (z : A). Keep ((front ++ z ∷ []) ++ ys)) (sym h.0) (one-behind front ys y keep_ys)) h.1 (omega arith) in
      (k.0, ap₂ (λ (z : A) (l : List A). z ∷ l) (sym h.0) k.1, k.2)

  -- where items are stuck, any others that the same bytes begin with are a front of them
  pub front_of : (xs ys : List A) (r s : List ℕ) → Keep xs → Keep ys → IsStuck cells Keep xs r → zeros (flat_map cells xs) ++ r ≡ zeros (flat_map cells ys) ++ s
      → (more : List A) × (xs ≡ ys ++ more) × (s ≡ zeros (flat_map cells more) ++ r)
  front_of xs ys r s keep_xs keep_ys stuck is = elim (cases_lt (length xs) (length ys)) [
    | inr le ↦ shorter [] ys xs s r keep_ys keep_xs (sym is) le
    | inl lt ↦ let k = shorter [] xs ys r s keep_xs keep_ys is (omega (arith, lt)) in absurd (by k.0 k.1 k.2 lt)
  ]
    where
      by : (more : List A) → ys ≡ xs ++ more → r ≡ zeros (flat_map cells more) ++ s → length xs < length ys → ⊥
      by [] e f lt = omega (arith, lt, ap length (e ∙ append-nil xs))
      by (z ∷ more) e f lt =
          stuck z (zeros (flat_map cells more) ++ s) (f ∙ cons-zeros cells z more s) (less (xs ++ z ∷ []) more (subst Keep (e ∙ sym (append_assoc xs (z ∷ []) more)) keep_ys))
