-- What stands behind the book of a slot: amendments, each of which is a delta behind a gate of its own. The first whose gate isn't open
-- ends them.
use Rattle.std.specs.Prelude.{◌≡◌, ◌⊎◌, ℕ, ◌+◌, ◌<◌, ◌^◌, ◌==◌, Bool, true, false, not, ◌||◌, List, [], ◌∷◌, ◌++◌, length, take, drop, replicate, slice_index, flat_map, nat_lt, Option, None, Some, Result, Ok, Err}
use Rattle.std.specs.List.{AllByRecursion}
use Rattle.byteorder.specs.Endian.{little_bytes}
use Rattle.ice_values.specs.Cells.{Cells, zeros}
use Rattle.checkpoint_records.specs.Damage.{IsDamaged}
use Rattle.checkpoint_records.specs.Spelling.{Spells}
use Rattle.checkpoint_records.specs.declared.head.Format.{Format}
use Rattle.checkpoint_records.specs.declared.head.Format.TheVariants.{Single, Several}
use Rattle.checkpoint_records.specs.Rules.{KeepsRules}
use Rattle.checkpoint_records.specs.declared.records.Book.{Book}
use Rattle.checkpoint_records.specs.declared.refusals.BookRefusal.{BookRefusal}
use Rattle.checkpoint_records.specs.declared.refusals.BookRefusal.TheVariants.{Damaged, NoMemory}
use Rattle.checkpoint_changes.specs.Changes.{IsChange, apply, change_cells}
use Rattle.checkpoint_changes.specs.declared.changes.Change.{Change}

-- The amendments end where no gate and no number behind it can stand, or at a gate that isn't open.
abbrev pub is_at_end : List ℕ → Bool
is_at_end rest = nat_lt (length rest) 8 || not (slice_index rest 0 == 165)

-- The changes of a format: how each is spelled,
module _ (cells : Change → Cells) where
  -- the bytes of a delta
  abbrev pub delta_bytes : List Change → List ℕ
  delta_bytes delta = zeros (flat_map cells delta)

  -- An amendment is a gate, three zeros, how many bytes its delta has, and these. This is all but the gate,
  abbrev pub behind_gate : List Change → List ℕ
  behind_gate delta = replicate 3 0 ++ (little_bytes 4 (length (delta_bytes delta)) ++ delta_bytes delta)

  -- and this is all of it, with its gate open.
  abbrev pub amendment_bytes : List Change → List ℕ
  amendment_bytes delta = 165 ∷ behind_gate delta

  abbrev pub all_bytes : List (List Change) → List ℕ
  all_bytes deltas = flat_map amendment_bytes deltas

  -- and which there are.
  module _ (Fits : Change → Type 0) where
    -- A delta amends a book: it has bytes that an amendment can hold, and leads to a book by the rules.
    pub record Amended (book : Book) (delta : List Change) (next : Book) : Type 0 where
      pub changes : AllByRecursion Fits delta
      pub size : length (delta_bytes delta) < 2 ^ 32
      pub applied : apply book delta ≡ Some next
      pub rules : KeepsRules next
      pub epoch : next.epoch < 2 ^ 32

    -- each amends what the one before it left
    abbrev pub Amends : Book → List (List Change) → Book → Type 0
    Amends book [] last = last ≡ book
    Amends book (delta ∷ deltas) last = (next : Book) × Amended book delta next × Amends next deltas last

    -- the bytes begin with the amendments of these deltas, which lead from the first book to this one
    pub record Follow (first : Book) (bytes : List ℕ) (deltas : List (List Change)) (book : Book) (rest : List ℕ) : Type 0 where
      pub amends : Amends first deltas book
      pub is : bytes ≡ all_bytes deltas ++ rest

    -- So many bytes of amendments stand behind the first book, and lead to this one. There they end.
    pub record ReadsOn (first : Book) (bytes : List ℕ) (book : Book) (more : ℕ) : Type 0 where
      pub deltas : List (List Change)
      pub rest : List ℕ
      pub follow : Follow first bytes deltas book rest
      pub ended : is_at_end rest ≡ true
      pub size : more ≡ length (all_bytes deltas)

    -- Behind so many bytes of amendments stands an open gate, and no amendment of the book that they lead to.
    pub record StopsAt (first : Book) (bytes : List ℕ) (more : ℕ) : Type 0 where
      pub deltas : List (List Change)
      pub book : Book
      pub rest : List ℕ
      pub follow : Follow first bytes deltas book rest
      pub opened : is_at_end rest ≡ false
      pub size : more ≡ length (all_bytes deltas)
      pub stuck : (delta : List Change) (next : Book) (after : List ℕ) → rest ≡ amendment_bytes delta ++ after → ¬ (Amended book delta next)

-- Behind a book of the first format no length is told, since nothing may be appended there: the next commit writes the second.
abbrev pub told_length : Format → ℕ → Option ℕ
told_length Single more = None
told_length Several more = Some more

-- The bytes of a slot behind its head, of which the first n are a book's, lead to this book, by the changes of that book's format.
-- Amendments have so many of them.
abbrev pub SlotLeads : List ℕ → ℕ → Book → Option ℕ → Type 0
SlotLeads bytes n book length =
    (format : Format) × (first : Book) × (more : ℕ) × Spells format (take n bytes) first × ReadsOn (change_cells format) (IsChange format) first (drop n bytes) book more × (length ≡ told_length format more)

-- These bytes are damaged at a place: the book is, or the amendment whose gate stands there.
abbrev pub SlotDamaged : List ℕ → ℕ → ℕ → Type 0
SlotDamaged bytes n at = IsDamaged (take n bytes) at
    ⊎ ((format : Format) × (first : Book) × (more : ℕ) × Spells format (take n bytes) first × StopsAt (change_cells format) (IsChange format) first (drop n bytes) more × (at ≡ n + more))

-- what the bytes of a slot behind its head stand for
abbrev pub SlotReads : List ℕ → ℕ → Result (Book × Option ℕ) ℕ → Type 0
SlotReads bytes n (Ok x) = SlotLeads bytes n x.0 x.1
SlotReads bytes n (Err at) = SlotDamaged bytes n at

-- the cause of a refusal at a place; want of memory has no cause in the bytes
abbrev pub HasCause : (ℕ → Type 0) → BookRefusal → Type 0
HasCause Cause (Damaged at) = Cause at
HasCause Cause NoMemory = Unit {0}

abbrev pub IsSlotRefused : List ℕ → ℕ → BookRefusal → Type 0
IsSlotRefused bytes n refusal = HasCause (SlotDamaged bytes n) refusal
