-- Cutting a stream into its frames: once for all of it, or as more of it comes.
use Rattle.std.proofs.Common.{◌≡◌, ℕ, zero, suc, ◌+◌, ◌<◌, ◌≤◌, Bool, true, false, cond, List, [], ◌∷◌, ◌++◌, length, take, drop, Option, Some, inl, inr, ◌⊎◌, ◌*◌, refl, sym, ap, ◌∙◌, subst, arith, append-nil, append_assoc, length-append, length-drop}
use Rattle.std.proofs.lemmas.Bool.{cases_lt}
use Rattle.std.proofs.lemmas.Bool.Decides.{nat_tests}
use Rattle.std.proofs.lemmas.List.{take-append-le, drop-append-le, take_all}
use Rattle.ice_framing.specs.Frames.{Standing, Cut, fed, units, wanted, endian, has_frame, first_frame, without_first, uncut, behind, cut_upto, cut, IsPartial, IsOversize, is_oversize}
use Rattle.ice_framing.specs.declared.cutting.WholeFrame.{WholeFrame}
use Rattle.ice_framing.proofs.Headers.{units_in-append, units_in-short, endian_in-append}
use Rattle.ice_values.specs.declared.numbers.Endian.{Endian}

-- a choice that is known, or that changes nothing
cond-else : {A : Type 0} (b : Bool) (x y : A) → b ≡ false → cond b x y ≡ y
cond-else b x y h = rw h refl

cond-same : {A : Type 0} (b : Bool) (x y z : A) → (b ≡ true → x ≡ y) → cond b x z ≡ cond b y z
cond-same true x y z h = h refl
cond-same false x y z h = refl

-- what holds for both branches holds for the choice
pub cond-both : {A : Type 0} (P : A → Type 0) (b : Bool) (x y : A) → (b ≡ true → P x) → (b ≡ false → P y) → P (cond b x y)
cond-both P true x y h k = h refl
cond-both P false x y h k = k refl

true_is_false : {b : Bool} → b ≡ true → b ≡ false → ⊥
true_is_false h k = cc

-- what the test for a whole frame means
pub record HasFrame (at : Standing) : Type 0 where
  pub whole : wanted at ≤ length at.held
  pub within : units at ≤ 8192

pub has_frame-true : (at : Standing) → has_frame at ≡ true → HasFrame at
has_frame-true at found = record { whole = grind (arith, nat_tests); within = grind (arith, nat_tests) }

pub true-has_frame : (at : Standing) → HasFrame at → has_frame at ≡ true
true-has_frame at found = let a = found.whole in let b = found.within in grind (arith, nat_tests)

pub false-has_frame : (at : Standing) → IsPartial at → has_frame at ≡ false
false-has_frame at short = grind (arith, nat_tests)

-- without a whole frame there is less than one, or its header states too much
pub ends_so : (at : Standing) → has_frame at ≡ false → IsPartial at ⊎ IsOversize at
ends_so at none = elim (cases_lt (length at.held) (wanted at)) [
  | inl short ↦ inl short
  | inr whole ↦ elim (cases_lt 8192 (units at)) [ inl much ↦ inr much | inr within ↦ absurd (true_is_false (true-has_frame at (record { whole = whole; within = within })) none) ]
]

pub oversize-has_frame : (at : Standing) → IsOversize at → has_frame at ≡ false
oversize-has_frame at much = grind (arith, nat_tests)

-- once a frame has gone, fewer bytes are left
pub length-without_first : (at : Standing) → HasFrame at → length (without_first at).held + wanted at ≡ length at.held
length-without_first at found = let a = found.whole in omega (arith, length-drop (wanted at) at.held)

no_bytes : (at : Standing) → length at.held ≤ 0 → has_frame at ≡ false
no_bytes at none = false-has_frame at (omega arith)

-- more steps than there are bytes change nothing
enough : (n m : ℕ) (at : Standing) → length at.held ≤ n → length at.held ≤ m → cut_upto n at ≡ cut_upto m at
enough zero zero at here there = refl
enough zero (suc m) at here there = sym (cond-else (has_frame at) (behind (first_frame at ∷ []) (cut_upto m (without_first at))) (uncut at) (no_bytes at here))
enough (suc n) zero at here there = cond-else (has_frame at) (behind (first_frame at ∷ []) (cut_upto n (without_first at))) (uncut at) (no_bytes at there)
enough (suc n) (suc m) at here there =
    cond-same (has_frame at) (behind (first_frame at ∷ []) (cut_upto n (without_first at))) (behind (first_frame at ∷ []) (cut_upto m (without_first at))) (uncut at)
    (λ found. let shorter = length-without_first at (has_frame-true at found) in
    ap (behind (first_frame at ∷ [])) (enough n m (without_first at) (omega arith) (omega arith)))

pub cut_upto-enough : (n : ℕ) (at : Standing) → length at.held ≤ n → cut_upto n at ≡ cut at
unfolding cut
cut_upto-enough n at here = enough n (length at.held) at here (omega arith)

-- a whole frame comes first, and then what is cut from the rest
pub cut-whole : (at : Standing) → HasFrame at → cut at ≡ behind (first_frame at ∷ []) (cut (without_first at))
cut-whole at found =
    let shorter = length-without_first at found in
    let one_more : cut_upto (suc (length at.held)) at ≡ cut at = cut_upto-enough (suc (length at.held)) at (omega arith) in
    let rest : cut_upto (length at.held) (without_first at) ≡ cut (without_first at) = cut_upto-enough (length at.held) (without_first at) (omega arith) in
    let step : cut_upto (suc (length at.held)) at ≡ behind (first_frame at ∷ []) (cut_upto (length at.held) (without_first at)) = rw (true-has_frame at found) refl in
    sym one_more ∙ step ∙ ap (behind (first_frame at ∷ [])) rest

-- without one there is nothing to cut
pub cut-none : (at : Standing) → has_frame at ≡ false → cut at ≡ uncut at
cut-none at none =
    let one_more : cut_upto (suc (length at.held)) at ≡ cut at = cut_upto-enough (suc (length at.held)) at (omega arith) in
    let step : cut_upto (suc (length at.held)) at ≡ uncut at = rw none refl in
    sym one_more ∙ step

pub cut-partial : (at : Standing) → IsPartial at → cut at ≡ uncut at
cut-partial at short = cut-none at (false-has_frame at short)

pub cut-oversize : (at : Standing) → IsOversize at → cut at ≡ uncut at
cut-oversize at much = cut-none at (oversize-has_frame at much)

-- ---- more bytes

pub frame_is : (d e : Endian) (xs ys : List ℕ) → d ≡ e → xs ≡ ys → ◌≡◌ {A = WholeFrame} (record { endian = d; bytes = xs }) (record { endian = e; bytes = ys })
frame_is d e xs ys p q = rw (p, q) refl

pub standing_is : (d e : Option Endian) (xs ys : List ℕ) → d ≡ e → xs ≡ ys → ◌≡◌ {A = Standing} (record { order = d; held = xs }) (record { order = e; held = ys })
standing_is d e xs ys p q = rw (p, q) refl

-- a header that is whole says the same
pub units-fed : (at : Standing) (bytes : List ℕ) → 8 ≤ length at.held → units (fed at bytes) ≡ units at
units-fed at bytes whole = units_in-append at.order at.held bytes whole

wanted-fed : (at : Standing) (bytes : List ℕ) → 8 ≤ length at.held → wanted (fed at bytes) ≡ wanted at
wanted-fed at bytes whole = ap (λ n. 8 + 8 * n) (units-fed at bytes whole)

endian-fed : (at : Standing) (bytes : List ℕ) → 8 ≤ length at.held → endian (fed at bytes) ≡ endian at
endian-fed at bytes whole = endian_in-append at.order at.held bytes whole

pub header_whole : (at : Standing) → HasFrame at → 8 ≤ length at.held
header_whole at found = let whole = found.whole in omega arith

frame-fed : (at : Standing) (bytes : List ℕ) → HasFrame at → HasFrame (fed at bytes)
frame-fed at bytes found =
    let whole = found.whole in
    let within = found.within in
    let same = units-fed at bytes (header_whole at found) in
    record { whole = omega (arith, length-append at.held bytes, same); within = omega (arith, same) }

first_frame-fed : (at : Standing) (bytes : List ℕ) → HasFrame at → first_frame (fed at bytes) ≡ first_frame at
first_frame-fed at bytes found =
    let header = header_whole at found in
    let taken : take (wanted (fed at bytes)) (at.held ++ bytes) ≡ take (wanted at) at.held = rw (wanted-fed at bytes header) (take-append-le (wanted at) at.held bytes found.whole) in
    frame_is (endian (fed at bytes)) (endian at) (take (wanted (fed at bytes)) (at.held ++ bytes)) (take (wanted at) at.held) (endian-fed at bytes header) taken

without_first-fed : (at : Standing) (bytes : List ℕ) → HasFrame at → without_first (fed at bytes) ≡ fed (without_first at) bytes
without_first-fed at bytes found =
    let header = header_whole at found in
    let left : drop (wanted (fed at bytes)) (at.held ++ bytes) ≡ drop (wanted at) at.held ++ bytes = rw (wanted-fed at bytes header) (drop-append-le (wanted at) at.held bytes found.whole) in
    standing_is (Some (endian (fed at bytes))) (Some (endian at)) (drop (wanted (fed at bytes)) (at.held ++ bytes)) (drop (wanted at) at.held ++ bytes) (ap (λ e. Some e) (endian-fed at bytes header)) left

-- the first frame is the same, whatever comes behind it
pub cut-first : (at : Standing) (bytes : List ℕ) → HasFrame at → cut (fed at bytes) ≡ behind (first_frame at ∷ []) (cut (fed (without_first at) bytes))
cut-first at bytes found =
    cut-whole (fed at bytes) (frame-fed at bytes found)
    ∙ ap (λ frame. behind (frame ∷ []) (cut (without_first (fed at bytes)))) (first_frame-fed at bytes found)
    ∙ ap (λ rest. behind (first_frame at ∷ []) (cut rest)) (without_first-fed at bytes found)

cut_upto-fed : (n : ℕ) (at : Standing) (bytes : List ℕ) → length at.held ≤ n → cut (fed at bytes) ≡ behind (cut_upto n at).frames (cut (fed (cut_upto n at).standing bytes))
cut_upto-fed zero at bytes here = refl
cut_upto-fed (suc n) at bytes here =
    cond-both (λ (c : Cut). cut (fed at bytes) ≡ behind c.frames (cut (fed c.standing bytes))) (has_frame at) (behind (first_frame at ∷ []) (cut_upto n (without_first at))) (uncut at)
    (λ found.
    let shorter = length-without_first at (has_frame-true at found) in
    cut-first at bytes (has_frame-true at found)
    ∙ ap (behind (first_frame at ∷ [])) (cut_upto-fed n (without_first at) bytes (omega arith)))
    (λ none. refl)

-- A stream that goes on: its frames stay, and more come from where it stood.
pub cut-fed : (at : Standing) (bytes : List ℕ) → cut (fed at bytes) ≡ behind (cut at).frames (cut (fed (cut at).standing bytes))
cut-fed at bytes = subst (λ (c : Cut). cut (fed at bytes) ≡ behind c.frames (cut (fed c.standing bytes))) (cut_upto-enough (length at.held) at (omega arith)) (cut_upto-fed (length at.held) at bytes (omega arith))

-- once all frames have gone there is none in front
cut_upto-standing : (n : ℕ) (at : Standing) → length at.held ≤ n → has_frame (cut_upto n at).standing ≡ false
cut_upto-standing zero at here = no_bytes at here
cut_upto-standing (suc n) at here =
    cond-both (λ (c : Cut). has_frame c.standing ≡ false) (has_frame at) (behind (first_frame at ∷ []) (cut_upto n (without_first at))) (uncut at)
    (λ found. let shorter = length-without_first at (has_frame-true at found) in cut_upto-standing n (without_first at) (omega arith))
    (λ none. none)

pub has_frame-standing : (at : Standing) → has_frame (cut at).standing ≡ false
has_frame-standing at = subst (λ (c : Cut). has_frame c.standing ≡ false) (cut_upto-enough (length at.held) at (omega arith)) (cut_upto-standing (length at.held) at (omega arith))

-- nothing more comes
pub fed-nil : (at : Standing) → fed at [] ≡ at
fed-nil at = ap (λ (bytes : List ℕ). let to : Standing = record { order = at.order; held = bytes } in to) (append-nil at.held)

-- what is fed in two parts
pub fed-fed : (at : Standing) (bytes more : List ℕ) → fed (fed at bytes) more ≡ fed at (bytes ++ more)
fed-fed at bytes more = standing_is at.order at.order ((at.held ++ bytes) ++ more) (at.held ++ (bytes ++ more)) refl (append_assoc at.held bytes more)

-- only a header that is whole states anything
pub stated_whole : (at : Standing) → 0 < units at → 8 ≤ length at.held
stated_whole at much = elim (cases_lt (length at.held) 8) [ inl short ↦ absurd (let none = units_in-short at.order at.held short in omega arith) | inr whole ↦ whole ]

-- a header that states too much goes on stating it
pub oversize-fed : (at : Standing) (bytes : List ℕ) → IsOversize at → IsOversize (fed at bytes)
oversize-fed at bytes much = rw (units-fed at bytes (stated_whole at (omega arith))) much

-- Where just a frame is held, it is the first of the frames of whatever stream goes on from there.
pub lent_first : (at : Standing) (e : Endian) (bytes more : List ℕ) → length at.held ≡ wanted at → length at.held ≤ 65544 → e ≡ endian at → bytes ≡ at.held
    → cut (fed at more) ≡ behind (record { endian = e; bytes = bytes } ∷ []) (cut (fed (without_first at) more))
lent_first at e bytes more whole limit order lent =
    let found : HasFrame at = record { whole = omega arith; within = omega arith } in
    let all : take (wanted at) at.held ≡ bytes = take_all (wanted at) at.held (omega arith) ∙ sym lent in
    cut-first at more found
    ∙ ap (λ frame. behind (frame ∷ []) (cut (fed (without_first at) more))) (frame_is (endian at) e (take (wanted at) at.held) bytes (sym order) all)

-- what the test for such a header means
pub is_oversize-true : (at : Standing) → is_oversize at ≡ true → IsOversize at
is_oversize-true at much = grind (arith, nat_tests)

pub is_oversize-false : (at : Standing) → is_oversize at ≡ false → units at ≤ 8192
is_oversize-false at within = grind (arith, nat_tests)

pub true-is_oversize : (at : Standing) → IsOversize at → is_oversize at ≡ true
true-is_oversize at much = grind (arith, nat_tests)

pub false-is_oversize : (at : Standing) → units at ≤ 8192 → is_oversize at ≡ false
false-is_oversize at within = grind (arith, nat_tests)
