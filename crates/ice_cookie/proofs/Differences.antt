-- Counting the places in which two lists of bytes differ.
use Rattle.std.proofs.Common.{◌≡◌, ◌↔◌, ℕ, ◌+◌, ◌==◌, ◌≤◌, if◌then◌else◌, List, [], ◌∷◌, length, drop, refl, arith}
use Rattle.std.proofs.lemmas.Bool.Decides.{nat_tests}
use Rattle.std.proofs.lemmas.List.{drop_all}

abbrev pub differences : List ℕ → List ℕ → ℕ
differences [] ys = 0
differences (x ∷ xs) [] = 0
differences (x ∷ xs) (y ∷ ys) = (if x == y then 0 else 1) + differences xs ys

pub none : (xs ys : List ℕ) → length xs ≡ length ys → (differences xs ys ≡ 0) ↔ (ys ≡ xs)
none [] [] same = (λ zero. refl, λ alike. refl)
none [] (y ∷ ys) same = absurd (omega (arith, same))
none (x ∷ xs) [] same = absurd (omega (arith, same))
none (x ∷ xs) (y ∷ ys) same =
    let rest = none xs ys (omega (arith, same)) in
    (λ zero. grind (arith, nat_tests, rest.0, zero), λ alike. grind (arith, nat_tests, rest.1, alike))

-- all of them were looked at
pub at_end : (xs ys : List ℕ) (at count : ℕ) → length xs ≡ length ys → length xs ≤ at → count + differences (drop at xs) (drop at ys) ≡ differences xs ys → (count ≡ 0) ↔ (ys ≡ xs)
at_end xs ys at count same end counted =
    let all : count ≡ differences xs ys = grind (arith, drop_all at xs end, counted) in
    rw all (none xs ys same)
