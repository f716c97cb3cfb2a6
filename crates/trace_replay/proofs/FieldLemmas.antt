-- The fields of a text.
use Rattle.std.proofs.Common.{◌≡◌, ◌≢◌, ℕ, ◌==◌, ◌↔◌, false, List, [], ◌∷◌, ◌++◌, Some, None, refl, sym, subst, arith}
use Rattle.std.proofs.lemmas.Bool.Decides.{nat_tests}
use Rattle.control_lines.specs.Parts.{IsWithout}
use Rattle.trace_replay.specs.Commands.{fields_of, GoOn, IsCommand}
use Rattle.trace_replay.specs.Steps.{LeadsTo}
use Rattle.trace_replay.specs.declared.commands.Place.{Place}

not_space : (b : ℕ) → b ≢ 32 → (b == 32) ≡ false
not_space b apart = grind (arith, nat_tests)

-- a field up to its space, and the fields after it
pub fields_of-space : (front back : List ℕ) → IsWithout 32 front → fields_of (front ++ (32 ∷ back)) ≡ front ∷ fields_of back
fields_of-space [] back without = refl
fields_of-space (b ∷ front) back without = rw (not_space b without.0, fields_of-space front back without.1) refl

-- a last field
pub fields_of-last : (text : List ℕ) → IsWithout 32 text → fields_of text ≡ text ∷ []
fields_of-last [] without = refl
fields_of-last (b ∷ text) without = rw (not_space b without.0, fields_of-last text without.1) refl

-- One more field leads on.
pub step_on : (place next : Place) (text left field : List ℕ) (fields : List (List ℕ)) → GoOn place (fields_of left) ↔ IsCommand text → fields_of left ≡ field ∷ fields → LeadsTo place field (Some next) → GoOn next fields ↔ IsCommand text
step_on place next text left field fields so_far first leads =
    let P : List (List ℕ) → Type 0 = GoOn place in
    ((λ goes. so_far.0 (subst P (sym first) ((leads fields).1 goes))), (λ is. (leads fields).0 (subst P first (so_far.1 is))))

-- The field can't stand here.
pub no_command : (place : Place) (text left field : List ℕ) (fields : List (List ℕ)) → GoOn place (fields_of left) ↔ IsCommand text → fields_of left ≡ field ∷ fields → LeadsTo place field None → IsCommand text → ⊥
no_command place text left field fields so_far first none is =
    let P : List (List ℕ) → Type 0 = GoOn place in
    none fields (subst P first (so_far.1 is))
