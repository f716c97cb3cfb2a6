-- The first of one byte in some bytes.
use Rattle.std.proofs.Common.{◌≡◌, ◌≢◌, ℕ, suc, ◌+◌, ◌==◌, true, false, ◌-◌, ◌<◌, ◌^◌, List, [], ◌∷◌, ◌++◌, length, take, drop, get_or, refl, sym, ◌∙◌, ap, arith, add-one, if◌then◌else◌}
use Rattle.std.proofs.Math.Seq.{drop-cons}
use Rattle.std.proofs.lemmas.List.{take-append-drop, length-drop, take_all, take_more}
use Rattle.std.proofs.lemmas.Bool.Decides.{nat_tests}
use Rattle.std.specs.Fmt.{decimal}
use Rattle.std.specs.Str.Parse.{AllDigits}
use Rattle.std.proofs.lemmas.Fmt.{decimal_is_IsNumeral}
use Rattle.std.proofs.lemmas.Str.Parse.{digit_from_value}
use Rattle.control_lines.specs.Parts.{IsWithout, SplitsOnce}

pub without-append : (byte : ℕ) (xs ys : List ℕ) → IsWithout byte xs → IsWithout byte ys → IsWithout byte (xs ++ ys)
without-append byte [] ys front back = back
without-append byte (x ∷ xs) ys front back = (front.0, without-append byte xs ys front.1 back)

-- one more byte that isn't it
pub without-more : (byte : ℕ) (bytes : List ℕ) (i : ℕ) → i < length bytes → IsWithout byte (take i bytes) → (get_or bytes i 0 ≡ byte → ⊥) → IsWithout byte (take (i + 1) bytes)
without-more byte bytes i inside before apart = rw (take_more bytes i 0 inside) (without-append byte (take i bytes) (get_or bytes i 0 ∷ []) before (apart, tt))

-- the first place of the byte parts them
pub splits_at : (byte : ℕ) (bytes : List ℕ) (i : ℕ) → i < length bytes → IsWithout byte (take i bytes) → get_or bytes i 0 ≡ byte → SplitsOnce byte bytes (take i bytes) (take (length bytes - (i + 1)) (drop (i + 1) bytes))
splits_at byte bytes i inside before is_byte = record {
  parts = sym (take-append-drop i bytes)
      ∙ ap (λ rest. take i bytes ++ rest) (drop-cons bytes i 0 inside ∙ (ap (λ b. b ∷ drop (suc i) bytes) is_byte
      ∙ ap (λ rest. byte ∷ rest) (sym (take_all (length bytes - (suc i)) (drop (suc i) bytes) (omega (arith, length-drop (suc i) bytes))) ∙ rw (sym (add-one i)) refl)));
  first = before;
}

-- what stands before the first such byte, and behind it
abbrev pub before : ℕ → List ℕ → List ℕ
before byte [] = []
before byte (b ∷ bytes) = if b == byte then [] else b ∷ before byte bytes

abbrev pub behind : ℕ → List ℕ → List ℕ
behind byte [] = []
behind byte (b ∷ bytes) = if b == byte then bytes else behind byte bytes

is_it : (byte : ℕ) → (byte == byte) ≡ true
is_it byte = grind (arith, nat_tests)

isn't_it : (byte b : ℕ) → b ≢ byte → (b == byte) ≡ false
isn't_it byte b apart = grind (arith, nat_tests)

pub before_is : (byte : ℕ) (front back : List ℕ) → IsWithout byte front → before byte (front ++ (byte ∷ back)) ≡ front
before_is byte [] back without = rw (is_it byte) refl
before_is byte (b ∷ front) back without = rw (isn't_it byte b without.0) (ap (λ bs. b ∷ bs) (before_is byte front back without.1))

pub behind_is : (byte : ℕ) (front back : List ℕ) → IsWithout byte front → behind byte (front ++ (byte ∷ back)) ≡ back
behind_is byte [] back without = rw (is_it byte) refl
behind_is byte (b ∷ front) back without = rw (isn't_it byte b without.0) (behind_is byte front back without.1)

-- there is but one such parting
pub splits_same : (byte : ℕ) (front back front' back' : List ℕ) → IsWithout byte front → IsWithout byte front' → front ++ (byte ∷ back) ≡ front' ++ (byte ∷ back') → (front ≡ front') × (back ≡ back')
splits_same byte front back front' back' one other e = (
  sym (before_is byte front back one) ∙ (ap (before byte) e ∙ before_is byte front' back' other),
  sym (behind_is byte front back one) ∙ (ap (behind byte) e ∙ behind_is byte front' back' other),
)

-- bytes without the byte don't have it inside
pub without_inside : (byte : ℕ) (front back : List ℕ) → IsWithout byte (front ++ (byte ∷ back)) → ⊥
without_inside byte [] back h = h.0 refl
without_inside byte (x ∷ front) back h = without_inside byte front back h.1

-- digits are no spaces
digits_without : (ds : List ℕ) → AllDigits 10 ds → IsWithout 32 ds
digits_without [] all = tt
digits_without (c ∷ ds) all = ((λ e. omega (arith, digit_from_value c all.0)), digits_without ds all.1)

pub decimal_without : (n : ℕ) → n < 2 ^ 32 → IsWithout 32 (decimal n)
decimal_without n small = digits_without (decimal n) (decimal_is_IsNumeral n (omega arith)).0.1
