-- A value read at the front, and how many bytes it took.
use Rattle.std.proofs.Common.{◌≡◌, ℕ, ◌-◌, ◌≤◌, List, length, drop, Option, Some, Result, Ok, Err, IfOk, sym, ◌∙◌, arith}
use Rattle.ice_values.specs.Cells.{Cells}
use Rattle.ice_values.specs.Reading.{Answers, ReadsFront}
use Rattle.ice_values.specs.declared.refusals.ValueRefusal.{ValueRefusal}
use Rattle.ice_values.specs.declared.refusals.ValueRefusal.TheVariants.{TooLong, Short, NoMemory}
use Rattle.ice_values.proofs.CellLaws.{IsBytes, Begins-length, Begins-drop}
use Rattle.ice_values.proofs.OptionLaws.{none_not_some}
use Rattle.ice_values.proofs.FieldLaws.{Exact}

module _ {X : Type 0} (cells : X → Cells) (Fits : X → Type 0) (read : List ℕ → Option (X × List ℕ)) (exact : Exact cells Fits read) where
  pub no_longer : (bytes : List ℕ) (x : X) (rest : List ℕ) → IsBytes bytes → read bytes ≡ Some (x, rest) → length rest ≤ length bytes
  no_longer bytes x rest fits e =
      let len = Begins-length (cells x) bytes rest (exact.takes bytes x rest fits e).0 in
      omega (arith, len)

  -- the rest is what follows as many bytes as it is shorter
  pub used : (bytes : List ℕ) (x : X) (rest : List ℕ) → IsBytes bytes → read bytes ≡ Some (x, rest) → read bytes ≡ Some (x, drop (length bytes - length rest) bytes)
  used bytes x rest fits e =
      let h = exact.takes bytes x rest fits e in
      let len : length bytes - length rest ≡ length (cells x) = omega (arith, Begins-length (cells x) bytes rest h.0) in
      rw (len, Begins-drop (cells x) bytes rest h.0) e

  pub reads_front : (bytes : List ℕ) → IsBytes bytes → (r : Result (X × ℕ) ValueRefusal) → Answers (λ x. (x.0, drop x.1 bytes)) r (read bytes) → IfOk r (λ x. x.1 ≤ length bytes) → ReadsFront cells Fits bytes r
  reads_front bytes fits (Ok x) e within = let h = exact.takes bytes x.0 (drop x.1 bytes) fits e in record {
    found = (within, h.1, h.0);
    only = λ y rest fits_y spelled. sym (exact.again bytes y rest fits_y spelled) ∙ e;
    short = λ absurd_error. absurd cc;
    not_long = λ absurd_error. absurd cc;
  }
  reads_front bytes fits (Err TooLong) e within = absurd e
  reads_front bytes fits (Err NoMemory) e within = record {
    found = tt;
    only = λ y rest fits_y spelled. tt;
    short = λ absurd_error. absurd cc;
    not_long = λ absurd_error. absurd cc;
  }
  reads_front bytes fits (Err Short) e within = record {
    found = tt;
    only = λ y rest fits_y spelled. absurd (none_not_some (y, rest) (sym e ∙ exact.again bytes y rest fits_y spelled));
    short = λ error y rest fits_y spelled. none_not_some (y, rest) (sym e ∙ exact.again bytes y rest fits_y spelled);
    not_long = λ absurd_error. absurd cc;
  }
