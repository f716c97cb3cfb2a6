-- Words from some place on, two by two.
use Rattle.std.proofs.Common.{◌≡◌, ℕ, zero, suc, ◌+◌, ◌<◌, ◌≤◌, true, false, List, [], ◌∷◌, drop, length, get_or, Option, Some, None, refl, ◌∙◌, ap, arith, if◌then◌else◌}
use Rattle.std.specs.Str.{bytes_eq}
use Rattle.word_pairs.specs.Words.{pairs_of, value_in}

-- the value of a name among the words from this place on
abbrev pub value_from : List (List ℕ) → ℕ → List ℕ → Option (List ℕ)
value_from ws at name = value_in (pairs_of (drop at ws)) name

-- at least two words are left
two_from : (ws : List (List ℕ)) (at : ℕ) → at + 2 ≤ length ws → drop at ws ≡ get_or ws at [] ∷ get_or ws (suc at) [] ∷ drop (suc (suc at)) ws
two_from [] at few = absurd (omega (arith, few))
two_from (a ∷ []) zero few = absurd (omega (arith, few))
two_from (a ∷ b ∷ ws) zero few = refl
two_from (a ∷ ws) (suc at) few = two_from ws at (omega (arith, few))

two_left : (ws : List (List ℕ)) (at : ℕ) → at + 2 ≤ length ws → drop at ws ≡ get_or ws at [] ∷ get_or ws (at + 1) [] ∷ drop (at + 2) ws
two_left ws at few =
    let one : suc at ≡ at + 1 = omega arith in
    let two : suc (suc at) ≡ at + 2 = omega arith in
    two_from ws at few ∙ (ap (λ n. get_or ws at [] ∷ get_or ws n [] ∷ drop (suc (suc at)) ws) one ∙ ap (λ n. get_or ws at [] ∷ get_or ws (at + 1) [] ∷ drop n ws) two)

-- the first pair has the name
pub found_here : (ws : List (List ℕ)) (at : ℕ) (name : List ℕ) → at + 2 ≤ length ws → bytes_eq (get_or ws at []) name ≡ true → value_from ws at name ≡ Some (get_or ws (at + 1) [])
found_here ws at name few is = ap (λ words. value_in (pairs_of words) name) (two_left ws at few) ∙ ap (λ b. if b then Some (get_or ws (at + 1) []) else value_from ws (at + 2) name) is

-- and another has it, or none
pub found_later : (ws : List (List ℕ)) (at : ℕ) (name : List ℕ) → at + 2 ≤ length ws → bytes_eq (get_or ws at []) name ≡ false → value_from ws at name ≡ value_from ws (at + 2) name
found_later ws at name few is = ap (λ words. value_in (pairs_of words) name) (two_left ws at few) ∙ ap (λ b. if b then Some (get_or ws (at + 1) []) else value_from ws (at + 2) name) is

-- fewer than two words make no pair
pub none_left : (ws : List (List ℕ)) (at : ℕ) (name : List ℕ) → length ws < at + 2 → value_from ws at name ≡ None
none_left [] zero name few = refl
none_left [] (suc at) name few = refl
none_left (a ∷ []) zero name few = refl
none_left (a ∷ b ∷ ws) zero name few = absurd (omega (arith, few))
none_left (a ∷ ws) (suc at) name few = none_left ws at name (omega (arith, few))
