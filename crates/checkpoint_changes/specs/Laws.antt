-- A law of slots.
use Rattle.std.specs.Prelude.{◌≡◌, ℕ, List, Option, Result}
use Rattle.checkpoint_records.specs.declared.records.Book.{Book}
use Rattle.checkpoint_changes.specs.Amendments.{SlotReads}

-- No bytes of a slot stand for two books, nor for a book and a place of damage, nor for two places.
abbrev pub SlotsReadOnce : Type 0
SlotsReadOnce = (bytes : List ℕ) (n : ℕ) (first second : Result (Book × Option ℕ) ℕ) → SlotReads bytes n first → SlotReads bytes n second → first ≡ second
