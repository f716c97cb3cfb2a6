-- A list with new bytes at a place: the new ones within, the old ones outside.
use Rattle.std.proofs.Common.{◌≡◌, ℕ, ◌+◌, ◌-◌, ◌<◌, ◌≤◌, ◌⊎◌, true, false, List, ◌++◌, length, take, drop, slice_index, refl, ap, ◌∙◌, arith, inl, inr}
use Rattle.std.proofs.lemmas.List.{length-append, length-drop, length-take-le, get_or-take, get_or-drop, get_or_append_left, get_or-append_right}
use Rattle.owned_lists.specs.Bytes.{overwritten}
use Rattle.sm_world.specs.Crash.{covers}

inside_is : (at n i : ℕ) → covers at n i ≡ true → (at ≤ i) × (i < at + n)
inside_is at n i inside = grind arith

outside_is : (at n i : ℕ) → covers at n i ≡ false → (i < at) ⊎ (at + n ≤ i)
outside_is at n i outside = grind arith

module _ (old : List ℕ) (at : ℕ) (bytes : List ℕ) (fits : at + length bytes ≤ length old) where
  front : length (take at old) ≡ at
  front = length-take-le at old (omega (arith, fits))

  pub length-overwritten : length (overwritten old at bytes) ≡ length old
  length-overwritten = omega (arith, fits, front, length-append (take at old) (bytes ++ drop (at + length bytes) old), length-append bytes (drop (at + length bytes) old), length-drop (at + length bytes) old)

  pub inside_overwritten : (i : ℕ) → covers at (length bytes) i ≡ true → slice_index (overwritten old at bytes) i ≡ slice_index bytes (i - at)
  inside_overwritten i inside =
      let range = inside_is at (length bytes) i inside in
      get_or-append_right (take at old) (bytes ++ drop (at + length bytes) old) at i 0 front range.0
      ∙ get_or_append_left bytes (drop (at + length bytes) old) 0 (i - at) (omega (arith, range.0, range.1))

  behind : (i : ℕ) → at + length bytes ≤ i → slice_index (overwritten old at bytes) i ≡ slice_index old i
  behind i past =
      get_or-append_right (take at old) (bytes ++ drop (at + length bytes) old) at i 0 front (omega (arith, past))
      ∙ get_or-append_right bytes (drop (at + length bytes) old) (length bytes) (i - at) 0 refl (omega (arith, past))
      ∙ get_or-drop (at + length bytes) old (i - at - length bytes) 0
      ∙ ap (λ (k : ℕ). slice_index old k) (omega (arith, past))

  pub outside_overwritten : (i : ℕ) → covers at (length bytes) i ≡ false → slice_index (overwritten old at bytes) i ≡ slice_index old i
  outside_overwritten i outside = elim (outside_is at (length bytes) i outside) [
    | inl before ↦ get_or_append_left (take at old) (bytes ++ drop (at + length bytes) old) 0 i (omega (arith, before, front)) ∙ get_or-take at old i 0 before
    | inr past ↦ behind i past
  ]
