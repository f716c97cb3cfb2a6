-- Taking parts from the front of some bytes.
use Rattle.std.proofs.Common.{◌≡◌, ℕ, ◌+◌, ◌-◌, ◌≤◌, List, [], ◌∷◌, ◌++◌, length, drop, take, true, false, refl, sym, ap, ◌∙◌, arith, length-drop, append_assoc}
use Rattle.std.proofs.lemmas.List.{drop-drop, take_all}
use Rattle.display_stream.specs.Parts.{Standing, Cut, has_part, uncut, first_part, without_first, wanted, behind, cut}
use Rattle.display_stream.specs.declared.stages.Stage.{Stage}
use Rattle.display_stream.specs.declared.stages.Stage.TheVariants.{Later}
use Rattle.display_stream.proofs.Cuts.{has_part-true, cut-whole, cut-none, standing_is}

behind-behind : (front parts : List (List ℕ)) (c : Cut) → behind front (behind parts c) ≡ behind (front ++ parts) c
behind-behind front parts c = ap (λ (all : List (List ℕ)). let b : Cut = record { parts = all; standing = c.standing } in b) (sym (append_assoc front parts c.parts))

-- what is left behind so many bytes, at this stage
abbrev pub left_of : Stage → List ℕ → ℕ → Standing
left_of stage bytes taken = record { stage = stage; held = drop taken bytes }

-- Some parts were taken: they and what is cut from the rest are the parts there were and what is cut from all bytes.
pub record Taking (first : List (List ℕ)) (stage : Stage) (bytes : List ℕ) (parts : List (List ℕ)) (now : Stage) (taken : ℕ) : Type 0 where
  pub same : behind parts (cut (left_of now bytes taken)) ≡ behind first (cut (record { stage = stage; held = bytes }))
  pub within : taken ≤ length bytes

-- one part more
pub one_taken : (first parts grown : List (List ℕ)) (stage now : Stage) (bytes : List ℕ) (taken len : ℕ) (part : List ℕ) → Taking first stage bytes parts now taken
    → (len ≡ wanted (left_of now bytes taken)) × (has_part (left_of now bytes taken) ≡ true) → part ≡ take len (drop taken bytes) → grown ≡ parts ++ part ∷ []
    → Taking first stage bytes grown Later (taken + len)
one_taken first parts grown stage now bytes taken len part taking found part_is grows =
    let at = left_of now bytes taken in
    let whole = has_part-true at found.1 in
    let small = whole.whole in
    let next = left_of Later bytes (taken + len) in
    let there : next ≡ without_first at = standing_is Later Later (drop (taken + len) bytes) (drop (wanted at) at.held) refl (sym (drop-drop len taken bytes) ∙ ap (λ n. drop n (drop taken bytes)) found.0) in
    let is : part ≡ first_part at = part_is ∙ ap (λ n. take n (drop taken bytes)) found.0 in
    record {
      same = ap (λ (ps : List (List ℕ)). behind ps (cut next)) grows ∙ ap (λ (p : List ℕ). behind (parts ++ p ∷ []) (cut next)) is ∙ ap (λ (s : Standing). behind (parts ++ first_part at ∷ []) (cut s)) there ∙ sym (behind-behind parts (first_part at ∷ []) (cut (without_first at))) ∙ ap (behind parts) (sym (cut-whole at whole)) ∙ taking.same;
      within = omega (arith, found.0, length-drop taken bytes, taking.within);
    }

-- no part is left
pub none_left : (first parts : List (List ℕ)) (stage now : Stage) (bytes : List ℕ) (taken : ℕ) → Taking first stage bytes parts now taken → has_part (left_of now bytes taken) ≡ false
    → behind parts (uncut (left_of now bytes taken)) ≡ behind first (cut (record { stage = stage; held = bytes }))
none_left first parts stage now bytes taken taking none = ap (behind parts) (sym (cut-none (left_of now bytes taken) none)) ∙ taking.same

-- what is behind so many, of as many as there are
pub all_behind : {A : Type 0} (xs : List A) (i : ℕ) → take (length xs - i) (drop i xs) ≡ drop i xs
all_behind xs i = take_all (length xs - i) (drop i xs) (omega (arith, length-drop i xs))
