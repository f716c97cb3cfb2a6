-- What calls find at the front of bytes.
use Rattle.std.proofs.Common.{◌≡◌, ℕ, List, ◌++◌, Some, None, refl, ap}
use Rattle.ice_values.specs.Cells.{zeros}
use Rattle.ice_values.specs.Numbers.{number_bytes}
use Rattle.ice_values.specs.declared.numbers.Endian.TheVariants.{Lsb}
use Rattle.ice_values.proofs.OptionLaws.{some_is, none_not_some}
use Rattle.checkpoint_records.specs.Finding.{Finds}
use Rattle.checkpoint_records.specs.Spelling.{format_number, head_cells}
use Rattle.checkpoint_records.specs.declared.head.Head.{Head}

module _ {A : Type 0} (spelled : A → List ℕ) (Fits : A → Type 0) (bytes : List ℕ) where
  pub nothing : ((x : A) (rest : List ℕ) → Fits x → bytes ≡ spelled x ++ rest → ⊥) → Finds spelled Fits bytes None
  nothing no_front = record { some = tt; only = λ x rest fits is. absurd (no_front x rest fits is) }

  -- what is found is what is spelled
  pub found_is : (x y : A) (mid rest : List ℕ) → Finds spelled Fits bytes (Some (x, mid)) → Fits y → bytes ≡ spelled y ++ rest → (x ≡ y) × (mid ≡ rest)
  found_is x y mid rest finds fits is =
      let e : ◌≡◌ {A = A × List ℕ} (x, mid) (y, rest) = some_is (x, mid) (y, rest) (finds.only y rest fits is) in
      (ap (λ (p : A × List ℕ). p.0) e, ap (λ (p : A × List ℕ). p.1) e)

  pub none_found : (y : A) (rest : List ℕ) → Finds spelled Fits bytes None → Fits y → bytes ≡ spelled y ++ rest → ⊥
  none_found y rest finds fits is = none_not_some (y, rest) (finds.only y rest fits is)

abbrev pub number : ℕ → List ℕ
number n = number_bytes Lsb 4 n

-- a head is four numbers
pub head_is : (head : Head) (rest : List ℕ) → zeros (head_cells head) ++ rest ≡ number (format_number head.format) ++ (number head.epoch ++ (number head.count ++ (number head.pending ++ rest)))
head_is head rest = refl
