-- Cutting a stream into its parts: once for all of it, or as more of it comes.
use Rattle.std.proofs.Common.{◌≡◌, ℕ, zero, suc, ◌+◌, ◌≤◌, Bool, true, false, cond, List, [], ◌∷◌, ◌++◌, length, drop, inl, inr, ◌⊎◌, ◌*◌, refl, sym, ap, ◌∙◌, subst, arith, length-append, length-drop}
use Rattle.std.proofs.lemmas.Bool.{cases_lt, cond_both}
use Rattle.std.proofs.lemmas.Bool.Decides.{nat_tests}
use Rattle.std.proofs.lemmas.List.{take-append-le, drop-append-le}
use Rattle.display_stream.specs.Parts.{Standing, Cut, fed, units, head_in, wanted, has_part, first_part, without_first, uncut, behind, cut_upto, cut, IsPartial, IsOversize}
use Rattle.display_stream.specs.declared.stages.Stage.{Stage}
use Rattle.display_stream.specs.declared.stages.Stage.TheVariants.{Setup, Later}
use Rattle.display_stream.proofs.Heads.{units_in-append}

-- a choice that is known, or that changes nothing
cond-else : {A : Type 0} (b : Bool) (x y : A) → b ≡ false → cond b x y ≡ y
cond-else b x y h = rw h refl

true_is_false : {b : Bool} → b ≡ true → b ≡ false → ⊥
true_is_false h k = cc

-- each part has eight bytes and more
pub eight : (stage : Stage) → 8 ≤ head_in stage
eight Setup = omega arith
eight Later = omega arith

-- what the test for a whole part means
pub record HasPart (at : Standing) : Type 0 where
  pub whole : wanted at ≤ length at.held
  pub within : units at ≤ 65535

pub has_part-true : (at : Standing) → has_part at ≡ true → HasPart at
has_part-true at found = record { whole = grind (arith, nat_tests); within = grind (arith, nat_tests) }

pub true-has_part : (at : Standing) → HasPart at → has_part at ≡ true
true-has_part at found = let a = found.whole in let b = found.within in grind (arith, nat_tests)

false-has_part : (at : Standing) → IsPartial at → has_part at ≡ false
false-has_part at short = grind (arith, nat_tests)

-- without a whole part there is less than one, or it states too much
pub ends_so : (at : Standing) → has_part at ≡ false → IsPartial at ⊎ IsOversize at
ends_so at none = elim (cases_lt (length at.held) (wanted at)) [
  | inl short ↦ inl short
  | inr whole ↦ elim (cases_lt 65535 (units at)) [ inl much ↦ inr much | inr within ↦ absurd (true_is_false (true-has_part at (record { whole = whole; within = within })) none) ]
]

-- once a part has gone, fewer bytes are left
pub length-without_first : (at : Standing) → HasPart at → length (without_first at).held + wanted at ≡ length at.held
length-without_first at found = let a = found.whole in omega (arith, length-drop (wanted at) at.held)

no_bytes : (at : Standing) → length at.held ≤ 0 → has_part at ≡ false
no_bytes at none = false-has_part at (let some = eight at.stage in omega arith)

-- more steps than there are bytes change nothing
enough : (n m : ℕ) (at : Standing) → length at.held ≤ n → length at.held ≤ m → cut_upto n at ≡ cut_upto m at
enough zero zero at here there = refl
enough zero (suc m) at here there = sym (cond-else (has_part at) (behind (first_part at ∷ []) (cut_upto m (without_first at))) (uncut at) (no_bytes at here))
enough (suc n) zero at here there = cond-else (has_part at) (behind (first_part at ∷ []) (cut_upto n (without_first at))) (uncut at) (no_bytes at there)
enough (suc n) (suc m) at here there =
    chosen (has_part at) refl
    (λ found. let shorter = length-without_first at (has_part-true at found) in let some = eight at.stage in
    ap (behind (first_part at ∷ [])) (enough n m (without_first at) (omega arith) (omega arith))) where
      chosen : (b : Bool) → has_part at ≡ b → (has_part at ≡ true → behind (first_part at ∷ []) (cut_upto n (without_first at)) ≡ behind (first_part at ∷ []) (cut_upto m (without_first at))) → cond b (behind (first_part at ∷ []) (cut_upto n (without_first at))) (uncut at) ≡ cond b (behind (first_part at ∷ []) (cut_upto m (without_first at))) (uncut at)
      chosen true found alike = alike found
      chosen false none alike = refl

pub cut_upto-enough : (n : ℕ) (at : Standing) → length at.held ≤ n → cut_upto n at ≡ cut at
unfolding cut
cut_upto-enough n at here = enough n (length at.held) at here (omega arith)

-- a whole part comes first, and then what is cut from the rest
pub cut-whole : (at : Standing) → HasPart at → cut at ≡ behind (first_part at ∷ []) (cut (without_first at))
cut-whole at found =
    let shorter = length-without_first at found in
    let one_more : cut_upto (suc (length at.held)) at ≡ cut at = cut_upto-enough (suc (length at.held)) at (omega arith) in
    let rest : cut_upto (length at.held) (without_first at) ≡ cut (without_first at) = cut_upto-enough (length at.held) (without_first at) (omega arith) in
    let step : cut_upto (suc (length at.held)) at ≡ behind (first_part at ∷ []) (cut_upto (length at.held) (without_first at)) = rw (true-has_part at found) refl in
    sym one_more ∙ step ∙ ap (behind (first_part at ∷ [])) rest

-- without one there is nothing to cut
pub cut-none : (at : Standing) → has_part at ≡ false → cut at ≡ uncut at
cut-none at none =
    let one_more : cut_upto (suc (length at.held)) at ≡ cut at = cut_upto-enough (suc (length at.held)) at (omega arith) in
    let step : cut_upto (suc (length at.held)) at ≡ uncut at = rw none refl in
    sym one_more ∙ step

-- ---- more bytes

pub standing_is : (d e : Stage) (xs ys : List ℕ) → d ≡ e → xs ≡ ys → ◌≡◌ {A = Standing} (record { stage = d; held = xs }) (record { stage = e; held = ys })
standing_is d e xs ys p q = rw (p, q) refl

-- the first bytes, once whole, say the same
units-fed : (at : Standing) (bytes : List ℕ) → 8 ≤ length at.held → units (fed at bytes) ≡ units at
units-fed at bytes whole = units_in-append at.stage at.held bytes whole

wanted-fed : (at : Standing) (bytes : List ℕ) → 8 ≤ length at.held → wanted (fed at bytes) ≡ wanted at
wanted-fed at bytes whole = ap (λ n. head_in at.stage + 4 * n) (units-fed at bytes whole)

pub head_whole : (at : Standing) → HasPart at → 8 ≤ length at.held
head_whole at found = let whole = found.whole in let some = eight at.stage in omega arith

part-fed : (at : Standing) (bytes : List ℕ) → HasPart at → HasPart (fed at bytes)
part-fed at bytes found =
    let whole = found.whole in
    let within = found.within in
    let same = units-fed at bytes (head_whole at found) in
    record { whole = omega (arith, length-append at.held bytes, same); within = omega (arith, same) }

first_part-fed : (at : Standing) (bytes : List ℕ) → HasPart at → first_part (fed at bytes) ≡ first_part at
first_part-fed at bytes found = rw (wanted-fed at bytes (head_whole at found)) (take-append-le (wanted at) at.held bytes found.whole)

without_first-fed : (at : Standing) (bytes : List ℕ) → HasPart at → without_first (fed at bytes) ≡ fed (without_first at) bytes
without_first-fed at bytes found =
    let left : drop (wanted (fed at bytes)) (at.held ++ bytes) ≡ drop (wanted at) at.held ++ bytes = rw (wanted-fed at bytes (head_whole at found)) (drop-append-le (wanted at) at.held bytes found.whole) in
    standing_is Later Later (drop (wanted (fed at bytes)) (at.held ++ bytes)) (drop (wanted at) at.held ++ bytes) refl left

-- the first part is the same, whatever comes behind it
cut-first : (at : Standing) (bytes : List ℕ) → HasPart at → cut (fed at bytes) ≡ behind (first_part at ∷ []) (cut (fed (without_first at) bytes))
cut-first at bytes found =
    cut-whole (fed at bytes) (part-fed at bytes found)
    ∙ ap (λ part. behind (part ∷ []) (cut (without_first (fed at bytes)))) (first_part-fed at bytes found)
    ∙ ap (λ rest. behind (first_part at ∷ []) (cut rest)) (without_first-fed at bytes found)

cut_upto-fed : (n : ℕ) (at : Standing) (bytes : List ℕ) → length at.held ≤ n → cut (fed at bytes) ≡ behind (cut_upto n at).parts (cut (fed (cut_upto n at).standing bytes))
cut_upto-fed zero at bytes here = refl
cut_upto-fed (suc n) at bytes here =
    cond_both (has_part at) (behind (first_part at ∷ []) (cut_upto n (without_first at))) (uncut at) (λ (c : Cut). cut (fed at bytes) ≡ behind c.parts (cut (fed c.standing bytes)))
    (λ found.
    let shorter = length-without_first at (has_part-true at found) in
    let some = eight at.stage in
    cut-first at bytes (has_part-true at found)
    ∙ ap (behind (first_part at ∷ [])) (cut_upto-fed n (without_first at) bytes (omega arith)))
    (λ none. refl)

-- A stream that goes on: its parts stay, and more come from where it stood.
pub cut-fed : (at : Standing) (bytes : List ℕ) → cut (fed at bytes) ≡ behind (cut at).parts (cut (fed (cut at).standing bytes))
cut-fed at bytes = subst (λ (c : Cut). cut (fed at bytes) ≡ behind c.parts (cut (fed c.standing bytes))) (cut_upto-enough (length at.held) at (omega arith)) (cut_upto-fed (length at.held) at bytes (omega arith))

-- once all parts have gone there is none in front
cut_upto-standing : (n : ℕ) (at : Standing) → length at.held ≤ n → has_part (cut_upto n at).standing ≡ false
cut_upto-standing zero at here = no_bytes at here
cut_upto-standing (suc n) at here =
    cond_both (has_part at) (behind (first_part at ∷ []) (cut_upto n (without_first at))) (uncut at) (λ (c : Cut). has_part c.standing ≡ false)
    (λ found. let shorter = length-without_first at (has_part-true at found) in let some = eight at.stage in cut_upto-standing n (without_first at) (omega arith))
    (λ none. none)

pub has_part-standing : (at : Standing) → has_part (cut at).standing ≡ false
has_part-standing at = subst (λ (c : Cut). has_part c.standing ≡ false) (cut_upto-enough (length at.held) at (omega arith)) (cut_upto-standing (length at.held) at (omega arith))
