-- What a file of the right size stands for: the book of the slot that is chosen, or the place where it is damaged.
-- A slot has
--   0   its generation, eight bytes
--   8   how many bytes its book has, four bytes
--   12  four bytes that say nothing
--   16  the book, and behind it amendments, as far as their gates are open
-- Numbers have their least significant byte first.
use Rattle.std.specs.Prelude.{Bool, List, None, Option, Some, Result, Ok, Err, drop, false, length, nat_le, nat_lt, option_map, replicate, true, ℕ, ◌%◌, ◌&&◌, ◌++◌, ◌+◌, ◌==◌, ◌≡◌, if◌then◌else◌}
use Rattle.byteorder.specs.Endian.{little_bytes, little_number}
use Rattle.checkpoint_records.specs.Books.{empty_book}
use Rattle.checkpoint_changes.specs.Amendments.{SlotLeads, SlotReads}
use Rattle.checkpoint_records.specs.Spelling.{book_bytes}
use Rattle.checkpoint_records.specs.declared.records.Book.{Book}
use Rattle.checkpoint_slots.specs.declared.layout.Slot.{Slot}
use Rattle.checkpoint_slots.specs.declared.layout.Slot.TheVariants.{First, Second}
use Rattle.checkpoint_slots.specs.Layout.{is_open, slot_of, start_of}

unfoldable pub generation_of : List ℕ → ℕ
generation_of slot = little_number 8 slot

unfoldable pub length_of : List ℕ → ℕ
length_of slot = little_number 4 (drop 8 slot)

-- The slot of the book: the one whose gate is open. Where both are, it is the one with the greater generation, and equal
-- generations are a damage.
abbrev pub choose : Bool → Bool → ℕ → ℕ → Result (Option Slot) ℕ
choose false false first second = Ok None
choose true false first second = Ok (Some First)
choose false true first second = Ok (Some Second)
choose true true first second = if nat_lt first second then Ok (Some Second) else (if nat_lt second first then Ok (Some First) else Err 64)

abbrev pub chosen : List ℕ → Result (Option Slot) ℕ
chosen file = choose (is_open file First) (is_open file Second) (generation_of (slot_of file First)) (generation_of (slot_of file Second))

-- a book has whole units of eight bytes, and there is room for it and the gate behind it
abbrev pub may_be_length : ℕ → Bool
may_be_length n = (n % 8 == 0) && nat_le n 8388584

-- what bytes that lie at a place stand for, in the file
abbrev pub placed : ℕ → Result (Book × Option ℕ) ℕ → Result Book ℕ
placed at (Ok found) = Ok found.0
placed at (Err damage) = Err (at + damage)

-- These bytes, behind the head of a slot that lies at a place, begin with a book of n bytes; what they are for the file.
abbrev pub BookAt : Bool → ℕ → ℕ → List ℕ → Result Book ℕ → Type 0
BookAt false at n bytes answer = answer ≡ Err (at + 8)
BookAt true at n bytes answer = (inner : Result (Book × Option ℕ) ℕ) × SlotReads bytes n inner × (answer ≡ placed (at + 16) inner)

-- Bytes behind the head of a slot, which lie at a place of the file, begin with a book of n bytes and lead to this one; the next gate
-- stands at this place, if any may stand there.
pub record LeadsTo (at : ℕ) (bytes : List ℕ) (n : ℕ) (book : Book) (end : Option ℕ) : Type 0 where
  pub more : Option ℕ
  pub leads : SlotLeads bytes n book more
  pub ends : end ≡ option_map (λ k. at + n + k) more

-- what a slot that lies at a place stands for
unfoldable pub SlotStands : ℕ → List ℕ → Result Book ℕ → Type 0
SlotStands at slot answer = BookAt (may_be_length (length_of slot)) at (length_of slot) (drop 16 slot) answer

abbrev pub StandsBy : List ℕ → Result (Option Slot) ℕ → Result Book ℕ → Type 0
StandsBy file (Ok None) answer = answer ≡ Ok empty_book
StandsBy file (Ok (Some slot)) answer = SlotStands (start_of slot) (slot_of file slot) answer
StandsBy file (Err at) answer = answer ≡ Err at

-- What a file stands for: its book, or the place of its damage. A file without an open gate has the empty book.
abbrev pub Recovers : List ℕ → Result Book ℕ → Type 0
Recovers file answer = StandsBy file (chosen file) answer

-- The bytes that a commit writes into a slot: its head, the book, and eight zeros, the first of which is the closed gate.
unfoldable pub slot_bytes : ℕ → Book → List ℕ
slot_bytes generation book = little_bytes 8 generation ++ (little_bytes 4 (length (book_bytes book)) ++ (replicate 4 0 ++ (book_bytes book ++ replicate 8 0)))
