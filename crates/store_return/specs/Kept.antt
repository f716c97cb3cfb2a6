-- What a file stands for in which a book was kept: a whole store, or the bytes of a book.
use Rattle.std.specs.Prelude.{◌≡◌, ◌≢◌, ◌<◌, ℕ, List, length, Ok, Err}
use Rattle.checkpoint_records.specs.Damage.{StandFor}
use Rattle.checkpoint_records.specs.declared.records.Book.{Book}
use Rattle.checkpoint_slots.specs.Layout.{store_size}
use Rattle.checkpoint_slots.specs.Recovery.{Recovers}
use Rattle.store_return.specs.declared.faults.Fault.{Fault}
use Rattle.store_return.specs.declared.faults.Fault.TheVariants.{KeptDamaged, KeptSize, NoMemory}

-- A file of the size of a store has the book of that store, and any other the book that its bytes spell.
pub record IsKept (file : List ℕ) (book : Book) : Type 0 where
  pub store : length file ≡ store_size → Recovers file (Ok book)
  pub bytes : length file ≢ store_size → StandFor file (Ok book)

-- so it is with the place of its damage
pub record IsKeptDamaged (file : List ℕ) (at : ℕ) : Type 0 where
  pub store : length file ≡ store_size → Recovers file (Err at)
  pub bytes : length file ≢ store_size → StandFor file (Err at)

-- Why there is no book: the file is damaged, or is no store and larger than a book, or memory was wanting.
abbrev pub IsNotKept : List ℕ → Fault → Type 0
IsNotKept file (KeptDamaged at) = IsKeptDamaged file at
IsNotKept file (KeptSize size) = (size ≡ length file) × (size ≢ store_size) × (8388608 < size)
IsNotKept file NoMemory = Unit {0}
IsNotKept file fault = ⊥
