-- Which entries of a folder are numbered copies of a file.
use Rattle.std.specs.Prelude.{◌≡◌, ◌<◌, ◌≤◌, ◌^◌, ◌⊎◌, ℕ, List, ◌∷◌, ◌++◌, Contains}
use Rattle.std.specs.Fmt.{decimal}

-- the name of the file, a dot (46) and the number, which is one of 32 bits and not 0
pub record IsCopy (name entry : List ℕ) (number : ℕ) : Type 0 where
  pub is : entry ≡ name ++ (46 ∷ decimal number)
  pub some : 0 < number
  pub small : number < 2 ^ 32

-- One of the entries is the copy with this number.
pub record Lies (name : List ℕ) (entries : List (List ℕ)) (number : ℕ) : Type 0 where
  pub entry : List ℕ
  pub among : Contains entries entry
  pub copy : IsCopy name entry number

-- No copy has a higher number, and where it isn't 0 one has it.
pub record IsHighest (name : List ℕ) (entries : List (List ℕ)) (highest : ℕ) : Type 0 where
  pub above : (number : ℕ) → Lies name entries number → number ≤ highest
  pub one : (highest ≡ 0) ⊎ Lies name entries highest
