-- Taking bytes of a piece in two steps, those of the header first.
use Rattle.std.proofs.Common.{◌≡◌, ℕ, ◌+◌, ◌-◌, ◌<◌, min, List, [], ◌++◌, length, take, drop, Option, refl, sym, ap, ◌∙◌, arith, append_assoc, append-nil, length-append, inl, inr}
use Rattle.std.proofs.Math.Seq.{take-nil}
use Rattle.std.proofs.lemmas.Bool.{cases_lt}
use Rattle.std.proofs.lemmas.List.{take-append-drop, drop-drop, drop_all, length-take}
use Rattle.ice_values.specs.declared.numbers.Endian.{Endian}
use Rattle.ice_framing.specs.Frames.{units_in}
use Rattle.ice_framing.proofs.Headers.{units_in-append}

-- what is held after a step, and what is left, are what was held and the piece
pub rejoined : (old piece one rest : List ℕ) (n : ℕ) → one ≡ old ++ take n piece → rest ≡ drop n piece → one ++ rest ≡ old ++ piece
rejoined old piece one rest n taken left = rw (taken, left, append_assoc old (take n piece) (drop n piece), take-append-drop n piece) refl

-- two steps
pub rejoined_twice : (old piece one rest two : List ℕ) (head more : ℕ) → one ≡ old ++ take head piece → rest ≡ drop head piece → two ≡ one ++ take more rest
    → two ++ drop (head + more) piece ≡ old ++ piece
rejoined_twice old piece one rest two head more first left second =
    let behind : drop more rest ≡ drop (head + more) piece = rw left (drop-drop more head piece) in
    ap (λ tail. two ++ tail) (sym behind) ∙ rejoined one rest two (drop more rest) more second refl ∙ rejoined old piece one rest head first left

-- bytes that come only behind a whole header don't change what it states
units_in-more : (order : Option Endian) (one more : List ℕ) → (length one < 8 → more ≡ []) → units_in order (one ++ more) ≡ units_in order one
units_in-more order one more none = elim (cases_lt (length one) 8) [
  | inl short ↦ ap (units_in order) (ap (λ tail. one ++ tail) (none short) ∙ append-nil one)
  | inr whole ↦ units_in-append order one more whole
]

-- where the header isn't whole after the first step, the piece has ended
ended : (old piece one rest : List ℕ) (head : ℕ) → one ≡ old ++ take head piece → rest ≡ drop head piece → head ≡ min (length piece) (8 - length old) → length one < 8 → rest ≡ []
ended old piece one rest head first left count short =
    let len : length one ≡ length old + length (take head piece) = ap length first ∙ length-append old (take head piece) in
    left ∙ drop_all head piece (omega (arith, length-take head piece))

-- what the header states after the first step, it states after both, and with the whole piece
pub stated_alike : (order : Option Endian) (old piece one rest two : List ℕ) (head more : ℕ) → one ≡ old ++ take head piece → rest ≡ drop head piece → two ≡ one ++ take more rest
    → head ≡ min (length piece) (8 - length old) → (units_in order two ≡ units_in order one) × (units_in order (old ++ piece) ≡ units_in order one)
stated_alike order old piece one rest two head more first left second count =
    let over = ended old piece one rest head first left count in
    let nothing : length one < 8 → take more rest ≡ [] = λ short. rw (over short) (take-nil more) in (
      ap (units_in order) second ∙ units_in-more order one (take more rest) nothing,
      ap (units_in order) (sym (rejoined old piece one rest head first left)) ∙ units_in-more order one rest over,
    )
