-- Two lists in a row, taken apart in two ways.
use Rattle.std.proofs.Common.{◌≡◌, refl, sym, ap, ◌∙◌, ℕ, zero, suc, ◌<◌, ◌≤◌, List, [], ◌∷◌, ◌++◌, length, take, drop, arith, length-append}
use Rattle.std.proofs.lemmas.List.{take-append-le, take_all}

abbrev first_or : ℕ → List ℕ → ℕ
first_or d [] = d
first_or d (x ∷ xs) = x

abbrev others : List ℕ → List ℕ
others [] = []
others (x ∷ xs) = xs

pub record IsStart (xs ys : List ℕ) : Type 0 where
  pub more : List ℕ
  pub is : ys ≡ xs ++ more

-- the shorter one is a front of the other
pub start-of : (xs later ys rest : List ℕ) → xs ++ later ≡ ys ++ rest → length xs < length ys → IsStart xs ys
start-of [] later ys rest e l = record { more = ys; is = refl }
start-of (x ∷ xs) later [] rest e l = absurd (omega (arith, l))
start-of (x ∷ xs) later (y ∷ ys) rest e l =
    let k : IsStart xs ys = start-of xs later ys rest (ap others e) (omega (arith, l)) in
    record { more = k.more; is = ap (λ (z : ℕ). z ∷ ys) (sym (ap (first_or 0) e)) ∙ ap (λ (zs : List ℕ). x ∷ zs) k.is }

pub record Splits (xs later ys rest : List ℕ) : Type 0 where
  pub more : List ℕ
  pub is : xs ≡ ys ++ more
  pub rest_is : more ++ later ≡ rest

-- the longer one goes on behind the other
pub split-of : (xs later ys rest : List ℕ) → xs ++ later ≡ ys ++ rest → length ys ≤ length xs → Splits xs later ys rest
split-of xs later [] rest e l = record { more = xs; is = refl; rest_is = e }
split-of [] later (y ∷ ys) rest e l = absurd (omega (arith, l))
split-of (x ∷ xs) later (y ∷ ys) rest e l =
    let k : Splits xs later ys rest = split-of xs later ys rest (ap others e) (omega (arith, l)) in
    record { more = k.more; is = ap (λ (z : ℕ). z ∷ xs) (ap (first_or 0) e) ∙ ap (λ (zs : List ℕ). y ∷ zs) k.is; rest_is = k.rest_is }

pub none-held : (xs ys : List ℕ) → xs ++ ys ≡ [] → xs ≡ []
none-held [] ys e = refl
none-held (x ∷ xs) ys e = absurd cc

pub rejoined : (n : ℕ) (xs : List ℕ) → take n xs ++ drop n xs ≡ xs
rejoined zero [] = refl
rejoined zero (x ∷ xs) = refl
rejoined (suc n) [] = refl
rejoined (suc n) (x ∷ xs) = ap (λ (ys : List ℕ). x ∷ ys) (rejoined n xs)

pub longer : (xs ys : List ℕ) → length xs ≤ length (xs ++ ys)
longer xs ys = omega (arith, length-append xs ys)

pub front-is : (xs ys : List ℕ) → take (length xs) (xs ++ ys) ≡ xs
front-is xs ys = take-append-le (length xs) xs ys (omega arith) ∙ take_all (length xs) xs (omega arith)
