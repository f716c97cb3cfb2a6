-- Lists that are sifted twice.
use Rattle.std.proofs.Common.{◌≡◌, ℕ, Bool, true, false, cond, List, [], ◌∷◌, take, drop, filter, refl, sym, ap, subst}
use Rattle.std.specs.List.{AllByRecursion}
use Rattle.std.proofs.lemmas.List.{take-append-drop}
use Rattle.std.proofs.lemmas.List.Elements.{filter_passes, recursion_from_All}
use Rattle.checkpoint_records.proofs.DistinctLaws.{all_front, all_turned}

module _ {A : Type 0} (p : A → Bool) where
  pub all_pass : (xs : List A) → AllByRecursion (λ x. p x ≡ true) xs → filter p xs ≡ xs
  all_pass [] h = refl
  all_pass (x ∷ xs) h = rw h.0 (ap (λ (l : List A). x ∷ l) (all_pass xs h.1))

  pub none_pass : (xs : List A) → AllByRecursion (λ x. p x ≡ false) xs → filter p xs ≡ []
  none_pass [] h = refl
  none_pass (x ∷ xs) h = rw h.0 (none_pass xs h.1)

  pub passed : (xs : List A) → AllByRecursion (λ x. p x ≡ true) (filter p xs)
  passed xs = recursion_from_All (λ (x : A). p x ≡ true) (filter p xs) (filter_passes p xs)

  pub first_passed : (n : ℕ) (xs : List A) → AllByRecursion (λ x. p x ≡ true) (take n (filter p xs))
  first_passed n xs =
      let P : A → Type 0 = λ x. p x ≡ true in
      let ys : List A = filter p xs in
      all_front P (take n ys) (drop n ys) (subst (AllByRecursion P) (sym (take-append-drop n ys)) (passed xs))

module _ {A : Type 0} (p q : A → Bool) where
  -- what is left passes both
  pub sifted : ((x : A) → q x ≡ true → p x ≡ true) → (xs : List A) → filter p (filter q xs) ≡ filter q xs
  sifted both xs = all_pass p (filter q xs) (all_turned (λ (x : A). q x ≡ true) (λ (x : A). p x ≡ true) (filter q xs) both (passed q xs))

  pub sifted_first : ((x : A) → q x ≡ true → p x ≡ true) → (n : ℕ) (xs : List A) → filter p (take n (filter q xs)) ≡ take n (filter q xs)
  sifted_first both n xs = all_pass p (take n (filter q xs)) (all_turned (λ (x : A). q x ≡ true) (λ (x : A). p x ≡ true) (take n (filter q xs)) both (first_passed q n xs))

  -- what passes the one doesn't pass the other
  pub apart : ((x : A) → q x ≡ true → p x ≡ false) → (xs : List A) → filter p (filter q xs) ≡ []
  apart never xs = none_pass p (filter q xs) (all_turned (λ (x : A). q x ≡ true) (λ (x : A). p x ≡ false) (filter q xs) never (passed q xs))

  pub apart_first : ((x : A) → q x ≡ true → p x ≡ false) → (n : ℕ) (xs : List A) → filter p (take n (filter q xs)) ≡ []
  apart_first never n xs = none_pass p (take n (filter q xs)) (all_turned (λ (x : A). q x ≡ true) (λ (x : A). p x ≡ false) (take n (filter q xs)) never (first_passed q n xs))

  -- what doesn't pass the one wouldn't pass the other
  pub within : ((x : A) → q x ≡ false → p x ≡ false) → (xs : List A) → filter p (filter q xs) ≡ filter p xs
  within only [] = refl
  within only (x ∷ xs) = by (q x) refl (within only xs)
    where
      by : (b : Bool) → q x ≡ b → filter p (filter q xs) ≡ filter p xs → filter p (cond b (x ∷ filter q xs) (filter q xs)) ≡ cond (p x) (x ∷ filter p xs) (filter p xs)
      by true e rest = ap (λ (l : List A). cond (p x) (x ∷ l) l) rest
      by false e rest = rw (only x e) rest
