-- The first line of a text that isn't of its grammar, or the last of a text that is too long.
use Rattle.std.proofs.Common.{◌≡◌, ◌⊎◌, inl, inr, ℕ, ◌+◌, ◌<◌, List, [], ◌∷◌, ◌++◌, length, sym, ◌∙◌, ap, subst, arith, length-append}
use Rattle.std.specs.List.{AllByRecursion}
use Rattle.std.proofs.lemmas.Bool.{cases_lt}
use Rattle.std.proofs.lemmas.List.{append-nil}

same_first : (xs ys : List ℕ) (xss yss : List (List ℕ)) → xs ∷ xss ≡ ys ∷ yss → xs ≡ ys
same_first xs ys xss yss e = cc

same_others : (xs ys : List ℕ) (xss yss : List (List ℕ)) → xs ∷ xss ≡ ys ∷ yss → xss ≡ yss
same_others xs ys xss yss e = cc

-- a line among good lines is good
good_among : (Good : List ℕ → Type 0) (before : List (List ℕ)) (line : List ℕ) (after good rest : List (List ℕ)) → before ++ line ∷ after ≡ good ++ rest → length before < length good → AllByRecursion Good good → Good line
good_among Good before line after [] rest same short all = absurd (omega arith)
good_among Good [] line after (g ∷ good) rest same short all = subst Good (sym (same_first line g after (good ++ rest) same)) all.0
good_among Good (b ∷ before) line after (g ∷ good) rest same short all =
    good_among Good before line after good rest (same_others b g (before ++ line ∷ after) (good ++ rest) same) (omega arith) all.1

-- The n-th of these lines, counted from 1, is the first that isn't good, or it is the last of a text that is too long.
pub record BadAt (Good : List ℕ → Type 0) (TooLong : Type 0) (lines : List (List ℕ)) (n : ℕ) : Type 0 where
  pub good : List (List ℕ)
  pub line : List ℕ
  pub others : List (List ℕ)
  pub parts : lines ≡ good ++ line ∷ others
  pub number : n ≡ length good + 1
  pub all_good : AllByRecursion Good good
  pub bad : (Good line → ⊥) ⊎ (TooLong × (others ≡ []))

none_before : (Good : List ℕ → Type 0) (TooLong : Type 0) (lines : List (List ℕ)) (n k : ℕ) (one : BadAt Good TooLong lines n) (other : BadAt Good TooLong lines k) → length one.good < length other.good → ⊥
none_before Good TooLong lines n k one other short =
    let same : one.good ++ one.line ∷ one.others ≡ other.good ++ other.line ∷ other.others = sym one.parts ∙ other.parts in
    elim one.bad [
      | inl none ↦ none (good_among Good one.good one.line one.others other.good (other.line ∷ other.others) same short other.all_good)
      | inr last ↦ omega (arith, ap length same, length-append one.good (one.line ∷ one.others), length-append other.good (other.line ∷ other.others), ap length last.1)
    ]

pub same_place : (Good : List ℕ → Type 0) (TooLong : Type 0) (lines : List (List ℕ)) (n k : ℕ) → BadAt Good TooLong lines n → BadAt Good TooLong lines k → n ≡ k
same_place Good TooLong lines n k one other = elim (cases_lt (length one.good) (length other.good)) [
  | inl h ↦ absurd (none_before Good TooLong lines n k one other h)
  | inr h ↦ elim (cases_lt (length other.good) (length one.good)) [
    | inl h' ↦ absurd (none_before Good TooLong lines k n other one h')
    | inr h' ↦ omega (arith, one.number, other.number)
  ]
]

-- a text that isn't too long and whose lines are all good has no bad line
pub none_bad : (Good : List ℕ → Type 0) (TooLong : Type 0) (lines : List (List ℕ)) (n : ℕ) → AllByRecursion Good lines → (TooLong → ⊥) → BadAt Good TooLong lines n → ⊥
none_bad Good TooLong lines n all short at = elim at.bad [
  | inl none ↦ none (good_among Good at.good at.line at.others lines [] (sym (append-nil lines ∙ at.parts)) (omega (arith, ap length at.parts, length-append at.good (at.line ∷ at.others))) all)
  | inr last ↦ short last.0
]
