-- What stands at the front of bytes.
use Rattle.std.specs.Prelude.{◌≡◌, ℕ, ◌<◌, ◌≤◌, List, [], ◌∷◌, ◌++◌, length, flat_map, Option, Some, IfSome}
use Rattle.ice_values.specs.Cells.{Cells, zeros}
use Rattle.checkpoint_records.specs.declared.stops.Stop.{Stop}
use Rattle.checkpoint_records.specs.declared.stops.Stop.TheVariants.{Broken, NoMemory}

-- A call finds the value that fits and is spelled at the front of the bytes, and what follows it.
pub record Finds {A : Type 0} (spelled : A → List ℕ) (Fits : A → Type 0) (bytes : List ℕ) (found : Option (A × List ℕ)) : Type 0 where
  pub some : IfSome found (λ x. Fits x.0 × (bytes ≡ spelled x.0 ++ x.1))
  pub only : (x : A) (rest : List ℕ) → Fits x → bytes ≡ spelled x ++ rest → found ≡ Some (x, rest)

-- Items that keep a rule together stand one after the other at the front.
pub record AreInFront {A : Type 0} (cells : A → Cells) (Keep : List A → Type 0) (bytes : List ℕ) (items : List A) (rest : List ℕ) : Type 0 where
  pub keep : Keep items
  pub is : bytes ≡ zeros (flat_map cells items) ++ rest

-- No item follows them with which they keep the rule.
abbrev pub IsStuck : {A : Type 0} → (A → Cells) → (List A → Type 0) → List A → List ℕ → Type 0
IsStuck {A} cells Keep items rest = (item : A) (after : List ℕ) → rest ≡ zeros (cells item) ++ after → Keep (items ++ item ∷ []) → ⊥

-- The first items end where so many bytes are left, and there are fewer of them than there should be.
pub record EndsEarly {A : Type 0} (cells : A → Cells) (Keep : List A → Type 0) (bytes : List ℕ) (count left : ℕ) : Type 0 where
  pub items : List A
  pub rest : List ℕ
  pub front : AreInFront cells Keep bytes items rest
  pub stuck : IsStuck cells Keep items rest
  pub fewer : length items < count
  pub left_is : left ≡ length rest

-- a cause of a stop: no more bytes are left than there are, and this holds of how many; want of memory has no cause in the bytes
abbrev pub IsStop : List ℕ → (ℕ → Type 0) → Stop → Type 0
IsStop bytes Cause (Broken left) = (left ≤ length bytes) × Cause left
IsStop bytes Cause NoMemory = Unit {0}
