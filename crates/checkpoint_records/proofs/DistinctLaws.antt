-- Lists of which no two items are the same.
use Rattle.std.proofs.Common.{◌≡◌, ◌-◌, ◌≤◌, Bool, true, false, ◌||◌, List, [], ◌∷◌, ◌++◌, length, map, take, drop, get_or, refl, sym, ap, ◌∙◌, arith}
use Rattle.std.specs.List.{AllByRecursion, IsDistinct, list_any}
use Rattle.std.proofs.lemmas.List.Folds.{list_any-append}
use Rattle.std.proofs.lemmas.List.{take_all}

pub first_and_rest : {A : Type 0} (left : List A) (x : A) → 1 ≤ length left → x ≡ get_or left 0 x → left ≡ x ∷ take (length left - 1) (drop 1 left)
first_and_rest [] x le is = absurd (omega arith)
first_and_rest {A} (y ∷ ys) x le is =
    let all : take (length (y ∷ ys) - 1) ys ≡ ys = take_all (length (y ∷ ys) - 1) ys (omega arith) in
    let same : y ≡ x = sym is in
    rw all (ap (λ (z : A). z ∷ ys) same)

pub any_false : (a b : Bool) → (a || b) ≡ false → (a ≡ false) × (b ≡ false)
any_false true b e = absurd (let t : true ≡ false = e in cc)
any_false false b e = (refl, e)

pub all_append : {A : Type 0} (P : A → Type 0) (xs ys : List A) → AllByRecursion P xs → AllByRecursion P ys → AllByRecursion P (xs ++ ys)
all_append P [] ys h k = k
all_append P (x ∷ xs) ys h k = (h.0, all_append P xs ys h.1 k)

pub all_more : {A : Type 0} (P : A → Type 0) (xs : List A) (y : A) → AllByRecursion P xs → P y → AllByRecursion P (xs ++ y ∷ [])
all_more P xs y h k = all_append P xs (y ∷ []) h (k, tt)

pub all_front : {A : Type 0} (P : A → Type 0) (xs ys : List A) → AllByRecursion P (xs ++ ys) → AllByRecursion P xs
all_front P [] ys h = tt
all_front P (x ∷ xs) ys h = (h.0, all_front P xs ys h.1)

pub all_last : {A : Type 0} (P : A → Type 0) (xs : List A) (y : A) → AllByRecursion P (xs ++ y ∷ []) → P y
all_last P [] y h = h.0
all_last P (x ∷ xs) y h = all_last P xs y h.1

module _ {K : Type 0} (eq : K → K → Bool) where
  -- none is the same as x, by a test and of each
  pub none_same : (x : K) (ks : List K) → list_any (eq x) ks ≡ false → AllByRecursion (λ k. eq x k ≡ false) ks
  none_same x [] e = tt
  none_same x (k ∷ ks) e = let h = any_false (eq x k) (list_any (eq x) ks) e in (h.0, none_same x ks h.1)

  pub same_none : (x : K) (ks : List K) → AllByRecursion (λ k. eq x k ≡ false) ks → list_any (eq x) ks ≡ false
  same_none x [] h = refl
  same_none x (k ∷ ks) h = rw (h.0, same_none x ks h.1) refl

  pub distinct_more : (ks : List K) (y : K) → IsDistinct eq ks → list_any (λ k. eq k y) ks ≡ false → IsDistinct eq (ks ++ y ∷ [])
  unfolding IsDistinct
  distinct_more [] y d e = (tt, tt)
  distinct_more (k ∷ ks) y d e =
      let h = any_false (eq k y) (list_any (λ k. eq k y) ks) e in
      (all_more (λ x. eq k x ≡ false) ks y d.0 h.0, distinct_more ks y d.1 h.1)

  pub distinct_front : (ks js : List K) → IsDistinct eq (ks ++ js) → IsDistinct eq ks
  unfolding IsDistinct
  distinct_front [] js d = tt
  distinct_front (k ∷ ks) js d = (all_front (λ x. eq k x ≡ false) ks js d.0, distinct_front ks js d.1)

  pub distinct_last : (ks : List K) (y : K) → IsDistinct eq (ks ++ y ∷ []) → list_any (λ k. eq k y) ks ≡ false
  unfolding IsDistinct
  distinct_last [] y d = refl
  distinct_last (k ∷ ks) y d = rw (all_last (λ x. eq k x ≡ false) ks y d.0, distinct_last ks y d.1) refl

  pub distinct_cons : (x : K) (ks : List K) → list_any (eq x) ks ≡ false → IsDistinct eq ks → IsDistinct eq (x ∷ ks)
  unfolding IsDistinct
  distinct_cons x ks e d = (none_same x ks e, d)

  pub distinct_tail : (x : K) (ks : List K) → IsDistinct eq (x ∷ ks) → IsDistinct eq ks × (list_any (eq x) ks ≡ false)
  unfolding IsDistinct
  distinct_tail x ks d = (d.1, same_none x ks d.0)

  pub distinct_nil : IsDistinct eq []
  unfolding IsDistinct
  distinct_nil = tt

-- a test of keys
pub any_map : {A K : Type 0} (test : K → Bool) (key : A → K) (xs : List A) → list_any (λ x. test (key x)) xs ≡ list_any test (map key xs)
any_map test key [] = refl
any_map test key (x ∷ xs) = ap (λ (b : Bool). test (key x) || b) (any_map test key xs)

-- ---- lists behind one another, in either order

pub all_behind : {A : Type 0} (P : A → Type 0) (xs ys : List A) → AllByRecursion P (xs ++ ys) → AllByRecursion P ys
all_behind P [] ys h = h
all_behind P (x ∷ xs) ys h = all_behind P xs ys h.1

pub all_turned : {A : Type 0} (P Q : A → Type 0) (xs : List A) → ((x : A) → P x → Q x) → AllByRecursion P xs → AllByRecursion Q xs
all_turned P Q [] turn h = tt
all_turned P Q (x ∷ xs) turn h = (turn x h.0, all_turned P Q xs turn h.1)

or_swapped : (a b c : Bool) → (a || (b || c)) ≡ (b || (a || c))
or_swapped true true c = refl
or_swapped true false c = refl
or_swapped false true c = refl
or_swapped false false c = refl

pub any_swapped : {A : Type 0} (test : A → Bool) (xs ys zs : List A) → list_any test (xs ++ (ys ++ zs)) ≡ list_any test (ys ++ (xs ++ zs))
any_swapped test xs ys zs =
    list_any-append test xs (ys ++ zs) ∙ ap (λ (b : Bool). list_any test xs || b) (list_any-append test ys zs) ∙ or_swapped (list_any test xs) (list_any test ys) (list_any test zs)
    ∙ sym (list_any-append test ys (xs ++ zs) ∙ ap (λ (b : Bool). list_any test ys || b) (list_any-append test xs zs))

pub all_swapped : {A : Type 0} (P : A → Type 0) (xs ys zs : List A) → AllByRecursion P (xs ++ (ys ++ zs)) → AllByRecursion P (ys ++ (xs ++ zs))
all_swapped P xs ys zs h =
    let behind = all_behind P xs (ys ++ zs) h in
    all_append P ys (xs ++ zs) (all_front P ys zs behind) (all_append P xs zs (all_front P xs (ys ++ zs) h) (all_behind P ys zs behind))

module _ {K : Type 0} (eq : K → K → Bool) where
  -- none of some is the same as one of the others
  abbrev pub AreApart : List K → List K → Type 0
  AreApart xs ys = AllByRecursion (λ x. AllByRecursion (λ y. eq x y ≡ false) ys) xs

  pub distinct_split : (xs ys : List K) → IsDistinct eq (xs ++ ys) → IsDistinct eq xs × IsDistinct eq ys × AreApart xs ys
  unfolding IsDistinct
  distinct_split [] ys d = (tt, d, tt)
  distinct_split (x ∷ xs) ys d =
      let k = distinct_split xs ys d.1 in
      ((all_front (λ y. eq x y ≡ false) xs ys d.0, k.0), k.1, (all_behind (λ y. eq x y ≡ false) xs ys d.0, k.2))

  pub distinct_join : (xs ys : List K) → IsDistinct eq xs → IsDistinct eq ys → AreApart xs ys → IsDistinct eq (xs ++ ys)
  unfolding IsDistinct
  distinct_join [] ys d e apart = e
  distinct_join (x ∷ xs) ys d e apart = (all_append (λ y. eq x y ≡ false) xs ys d.0 apart.0, distinct_join xs ys d.1 e apart.1)

  module _ (turned : (x y : K) → eq x y ≡ false → eq y x ≡ false) where
    apart_turned : (xs ys : List K) → AreApart xs ys → AreApart ys xs
    apart_turned xs [] apart = tt
    apart_turned xs (y ∷ ys) apart = (
      all_turned (λ x. AllByRecursion (λ z. eq x z ≡ false) (y ∷ ys)) (λ x. eq y x ≡ false) xs (λ x h. turned x y h.0) apart,
      apart_turned xs ys (all_turned (λ x. AllByRecursion (λ z. eq x z ≡ false) (y ∷ ys)) (λ x. AllByRecursion (λ z. eq x z ≡ false) ys) xs (λ x h. h.1) apart),
    )

    pub distinct_swapped : (xs ys zs : List K) → IsDistinct eq (xs ++ (ys ++ zs)) → IsDistinct eq (ys ++ (xs ++ zs))
    distinct_swapped xs ys zs d =
        let first = distinct_split xs (ys ++ zs) d in
        let second = distinct_split ys zs first.1 in
        let from_ys : AreApart xs ys = all_turned (λ x. AllByRecursion (λ y. eq x y ≡ false) (ys ++ zs)) (λ x. AllByRecursion (λ y. eq x y ≡ false) ys) xs (λ x h. all_front (λ y. eq x y ≡ false) ys zs h) first.2 in
        let from_zs : AreApart xs zs = all_turned (λ x. AllByRecursion (λ y. eq x y ≡ false) (ys ++ zs)) (λ x. AllByRecursion (λ y. eq x y ≡ false) zs) xs (λ x h. all_behind (λ y. eq x y ≡ false) ys zs h) first.2 in
        distinct_join ys (xs ++ zs) second.0 (distinct_join xs zs first.0 second.1 from_zs) (both ys (apart_turned xs ys from_ys) second.2)
      where
        both : (ws : List K) → AreApart ws xs → AreApart ws zs → AreApart ws (xs ++ zs)
        both [] h k = tt
        both (w ∷ ws) h k = (all_append (λ y. eq w y ≡ false) xs zs h.0 k.0, both ws h.1 k.1)
