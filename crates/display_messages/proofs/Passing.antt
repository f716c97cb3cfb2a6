-- Passing many of a kind, one after the other.
use Rattle.std.proofs.Common.{◌≡◌, ℕ, suc, ◌+◌, ◌-◌, ◌<◌, ◌≤◌, List, Option, Some, None, refl, sym, ap, ◌∙◌, arith}
use Rattle.display_messages.specs.Setups.{behind_many}

next_is : (step : List ℕ → Option (List ℕ)) (n : ℕ) (bytes rest : List ℕ) → step bytes ≡ Some rest → behind_many step (suc n) bytes ≡ behind_many step n rest
unfolding behind_many
next_is step n bytes rest e = rw e refl

none_is : (step : List ℕ → Option (List ℕ)) (n : ℕ) (bytes : List ℕ) → step bytes ≡ None → behind_many step (suc n) bytes ≡ None
unfolding behind_many
none_is step n bytes e = rw e refl

-- one more was passed
pub passes_on : (step : List ℕ → Option (List ℕ)) (count i : ℕ) (bytes rest : List ℕ) (total : Option (List ℕ)) → i < count → step bytes ≡ Some rest → behind_many step (count - i) bytes ≡ total → behind_many step (count - (i + 1)) rest ≡ total
passes_on step count i bytes rest total lt e h =
    let one_more : count - i ≡ suc (count - (i + 1)) = omega arith in
    sym (next_is step (count - (i + 1)) bytes rest e) ∙ ap (λ n. behind_many step n bytes) (sym one_more) ∙ h

-- one couldn't be passed
pub passes_none : (step : List ℕ → Option (List ℕ)) (count i : ℕ) (bytes : List ℕ) (total : Option (List ℕ)) → i < count → step bytes ≡ None → behind_many step (count - i) bytes ≡ total → total ≡ None
passes_none step count i bytes total lt e h =
    let one_more : count - i ≡ suc (count - (i + 1)) = omega arith in
    sym h ∙ ap (λ n. behind_many step n bytes) one_more ∙ none_is step (count - (i + 1)) bytes e

-- all were passed
pub passed_all : (step : List ℕ → Option (List ℕ)) (count i : ℕ) (bytes : List ℕ) (total : Option (List ℕ)) → count ≤ i → behind_many step (count - i) bytes ≡ total → total ≡ Some bytes
unfolding behind_many
passed_all step count i bytes total le h =
    let over : count - i ≡ 0 = omega arith in
    sym h ∙ ap (λ n. behind_many step n bytes) over
