-- Numbers of four bytes that are read one after the other.
use Rattle.std.proofs.Common.{◌≡◌, ℕ, suc, ◌+◌, ◌-◌, ◌*◌, ◌<◌, ◌≤◌, List, [], ◌∷◌, ◌++◌, length, drop, sym, ap, ◌∙◌, arith, append_assoc, length-drop}
use Rattle.display_messages.specs.Places.{long_at, longs_in}

-- what was read, and what is left to read
pub longs_on : (count i x : ℕ) (rest behind numbers grown total : List ℕ) → i < count → x ≡ long_at 0 rest → behind ≡ drop 4 rest → grown ≡ numbers ++ x ∷ []
    → (numbers ++ longs_in (count - i) rest ≡ total) × (4 * (count - i) ≤ length rest) → (grown ++ longs_in (count - (i + 1)) behind ≡ total) × (4 * (count - (i + 1)) ≤ length behind)
longs_on count i x rest behind numbers grown total lt is left grows h =
    let m : ℕ = count - (i + 1) in
    let one_more : count - i ≡ suc m = omega arith in
    let first : numbers ++ longs_in (count - i) rest ≡ numbers ++ (x ∷ longs_in m behind) =
    ap (λ (n : ℕ). numbers ++ longs_in n rest) one_more ∙ ap (λ (y : ℕ). numbers ++ (y ∷ longs_in m (drop 4 rest))) (sym is) ∙ ap (λ (bytes : List ℕ). numbers ++ (x ∷ longs_in m bytes)) (sym left) in (
      ap (λ (l : List ℕ). l ++ longs_in m behind) grows ∙ append_assoc numbers (x ∷ []) (longs_in m behind) ∙ sym first ∙ h.0,
      omega (arith, h.1, ap length left, length-drop 4 rest),
    )
