-- There is but one parting at the last of one byte.
use Rattle.std.proofs.Common.{◌≡◌, ◌≢◌, ℕ, ◌==◌, true, false, List, [], ◌∷◌, ◌++◌, Option, Some, None, refl, sym, ◌∙◌, ap, subst, arith, if◌then◌else◌}
use Rattle.std.proofs.lemmas.Bool.Decides.{nat_tests}
use Rattle.ice_values.proofs.OptionLaws.{some_is}
use Rattle.control_lines.specs.Parts.{IsWithout}
use Rattle.control_lines.proofs.Splitting.{without_inside}
use Rattle.display_place.specs.Parting.{SplitsLast}

-- the parts around the last such byte
abbrev pub behind_one : ℕ → ℕ → List ℕ → Option (List ℕ × List ℕ) → Option (List ℕ × List ℕ)
behind_one byte b bytes None = if b == byte then Some ([], bytes) else None
behind_one byte b bytes (Some p) = Some (b ∷ p.0, p.1)

abbrev pub last_parts : ℕ → List ℕ → Option (List ℕ × List ℕ)
last_parts byte [] = None
last_parts byte (b ∷ bytes) = behind_one byte b bytes (last_parts byte bytes)

is_it : (byte : ℕ) → (byte == byte) ≡ true
is_it byte = grind (arith, nat_tests)

isn't_it : (byte b : ℕ) → b ≢ byte → (b == byte) ≡ false
isn't_it byte b apart = grind (arith, nat_tests)

without_parts : (byte : ℕ) (bytes : List ℕ) → IsWithout byte bytes → last_parts byte bytes ≡ None
without_parts byte [] without = refl
without_parts byte (b ∷ bytes) without = rw (without_parts byte bytes without.1, isn't_it byte b without.0) refl

parts_are : (byte : ℕ) (front back : List ℕ) → IsWithout byte back → last_parts byte (front ++ (byte ∷ back)) ≡ Some (front, back)
parts_are byte [] back without = rw (without_parts byte back without, is_it byte) refl
parts_are byte (b ∷ front) back without = rw (parts_are byte front back without) refl

pub last_same : (byte : ℕ) (bytes front back front' back' : List ℕ) → SplitsLast byte bytes front back → SplitsLast byte bytes front' back' → (front ≡ front') × (back ≡ back')
last_same byte bytes front back front' back' one other =
    let e : ◌≡◌ {A = List ℕ × List ℕ} (front, back) (front', back') = some_is (front, back) (front', back') (sym (parts_are byte front back one.last) ∙ (ap (last_parts byte) (sym one.parts ∙ other.parts) ∙ parts_are byte front' back' other.last)) in
    (ap (λ (p : List ℕ × List ℕ). p.0) e, ap (λ (p : List ℕ × List ℕ). p.1) e)

-- bytes without the byte aren't parted
pub not_parted : (byte : ℕ) (bytes front back : List ℕ) → IsWithout byte bytes → bytes ≡ front ++ (byte ∷ back) → ⊥
not_parted byte bytes front back without parts = without_inside byte front back (subst (IsWithout byte) parts without)
