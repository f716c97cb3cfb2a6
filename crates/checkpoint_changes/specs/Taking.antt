-- What is taken from the front of the bytes of a delta.
use Rattle.std.specs.Prelude.{◌≡◌, ℕ, List, ◌∷◌, ◌++◌, length, replicate, Option, None, Some, IfSome, IfNone}
use Rattle.std.specs.List.{AllByRecursion}
use Rattle.byteorder.specs.Endian.{little_bytes}
use Rattle.checkpoint_records.specs.declared.head.Format.{Format}
use Rattle.checkpoint_records.specs.declared.records.Book.{Book}
use Rattle.checkpoint_changes.specs.Changes.{IsChange, apply, change_cells, code_of}
use Rattle.checkpoint_changes.specs.Amendments.{Amended, amendment_bytes, delta_bytes}
use Rattle.checkpoint_changes.specs.declared.changes.Change.{Change}

-- a change of this code
abbrev pub IsOfCode : Format → ℕ → Change → Type 0
IsOfCode format code change = IsChange format change × (code_of format change ≡ code)

-- the bytes of a delta behind an open gate, three zeros and how many they are
abbrev pub framed : List ℕ → List ℕ
framed delta = 165 ∷ (replicate 3 0 ++ (little_bytes 4 (length delta) ++ delta))

-- A call gives the book after the changes that these bytes are. None where they are no changes, or one takes out what isn't there.
pub record AppliesAll (format : Format) (book : Book) (bytes : List ℕ) (found : Option Book) : Type 0 where
  pub some : IfSome found (λ next. (delta : List Change) × AllByRecursion (IsChange format) delta × (bytes ≡ delta_bytes (change_cells format) delta) × (apply book delta ≡ Some next))
  pub none : IfNone found ((delta : List Change) → AllByRecursion (IsChange format) delta → bytes ≡ delta_bytes (change_cells format) delta → apply book delta ≡ None)

-- A call gives the book after the amendment of this book at the front of the bytes, and what follows it. None where none stands there.
pub record TakesAmendment (format : Format) (book : Book) (bytes : List ℕ) (found : Option (Book × List ℕ)) : Type 0 where
  pub some : IfSome found (λ x. (delta : List Change) × Amended (change_cells format) (IsChange format) book delta x.0 × (bytes ≡ amendment_bytes (change_cells format) delta ++ x.1))
  pub none : IfNone found ((delta : List Change) (next : Book) (after : List ℕ) → bytes ≡ amendment_bytes (change_cells format) delta ++ after → ¬ (Amended (change_cells format) (IsChange format) book delta next))
