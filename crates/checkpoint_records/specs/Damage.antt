-- Where bytes that spell no book are damaged.
use Rattle.std.specs.Prelude.{◌≡◌, ◌⊎◌, ℕ, ◌+◌, ◌≤◌, List, ◌++◌, length, flat_map, Result, Ok, Err}
use Rattle.ice_values.specs.Cells.{zeros}
use Rattle.checkpoint_records.specs.Following.{AreParts}
use Rattle.checkpoint_records.specs.Parts.{IsHead}
use Rattle.checkpoint_records.specs.Spelling.{Part, head_cells, part_cells, Spells}
use Rattle.checkpoint_records.specs.declared.head.Format.{Format}
use Rattle.checkpoint_records.specs.declared.head.Head.{Head}
use Rattle.checkpoint_records.specs.declared.records.Book.{Book}
use Rattle.checkpoint_records.specs.declared.refusals.BookRefusal.{BookRefusal}
use Rattle.checkpoint_records.specs.declared.refusals.BookRefusal.TheVariants.{Damaged, NoMemory}

-- The bytes begin with the head of a book, of either format, and with parts that may stand behind it.
pub record BeginsBook (bytes : List ℕ) (head : Head) (parts : List Part) (rest : List ℕ) : Type 0 where
  pub stated : IsHead head
  pub follow : AreParts head parts
  pub is : bytes ≡ zeros (head_cells head ++ flat_map part_cells parts) ++ rest

-- the first n bytes are such a front
abbrev pub IsFront : List ℕ → ℕ → Type 0
IsFront bytes n = (head : Head) × (parts : List Part) × (rest : List ℕ) × BeginsBook bytes head parts rest × (length bytes ≡ n + length rest)

-- The bytes are no book, and the place of the damage is where the longest front of a book ends, or 0 where there is none: the start
-- of the first part that isn't whole or breaks a rule, or the end of the last part where bytes are left.
pub record IsDamaged (bytes : List ℕ) (at : ℕ) : Type 0 where
  pub no_book : (format : Format) (book : Book) → ¬ (Spells format bytes book)
  pub place : (at ≡ 0) ⊎ IsFront bytes at
  pub longest : (n : ℕ) → IsFront bytes n → n ≤ at

-- what bytes stand for: the book that they spell, in either format, or the place where they are damaged
abbrev pub StandFor : List ℕ → Result Book ℕ → Type 0
StandFor bytes (Ok book) = (format : Format) × Spells format bytes book
StandFor bytes (Err at) = IsDamaged bytes at

-- want of memory has no cause in the bytes
abbrev pub IsRefused : List ℕ → BookRefusal → Type 0
IsRefused bytes (Damaged at) = IsDamaged bytes at
IsRefused bytes NoMemory = Unit {0}

-- a call's answer is this one, unless memory was wanting
abbrev pub RefusesAs : {A : Type 0} → BookRefusal → Result A ℕ → Type 0
RefusesAs (Damaged at) answer = answer ≡ Err at
RefusesAs NoMemory answer = Unit {0}

abbrev pub Gives : {A : Type 0} → Result A BookRefusal → Result A ℕ → Type 0
Gives (Ok book) answer = answer ≡ Ok book
Gives (Err refusal) answer = RefusesAs refusal answer
