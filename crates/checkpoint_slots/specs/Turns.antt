-- What a turn of the store stands for, and what its calls keep.
use Rattle.std.specs.Prelude.{Err, IfOk, IsTrue, List, None, Ok, Option, Result, Some, [], drop, length, option_map, slice_index, take, true, if◌then◌else◌, ℕ, ◌++◌, ◌+◌, ◌-◌, ◌<◌, ◌^◌, ◌≡◌, ◌≢◌, ◌≤◌, ◌⊎◌, ◌∷◌}
use Rattle.std.specs.List.{AllByRecursion}
use Rattle.std.specs.Str.{bytes_eq}
use Rattle.sm_world.specs.Crash.{Image, cell_of, readable}
use Rattle.sm_world.specs.declared.effects.Effect.{Effect}
use Rattle.sm_world.specs.declared.effects.Effect.TheVariants.{Heard, Printed, Published, Sent, Shut, Started, SyncFailed, Synced, Torn, Wrote}
use Rattle.checkpoint_records.specs.Books.{default_name}
use Rattle.checkpoint_records.specs.Rules.{KeepsRules}
use Rattle.checkpoint_records.specs.declared.records.Book.{Book}
use Rattle.checkpoint_slots.specs.declared.fault.StoreFault.{StoreFault}
use Rattle.checkpoint_slots.specs.declared.layout.Slot.{Slot}
use Rattle.checkpoint_slots.specs.declared.layout.Slot.TheVariants.{First}
use Rattle.checkpoint_slots.specs.declared.turn.Current.{Current}
use Rattle.checkpoint_slots.specs.Layout.{gate_at, other, slot_of, start_of, store_size}
use Rattle.checkpoint_slots.specs.Recovery.{LeadsTo, Recovers, chosen, generation_of, length_of, may_be_length, slot_bytes}

-- At each of these effects, and before the first, every file that a crash may leave recovers to the old book or to the new one.
abbrev pub Swap : List ℕ → List Effect → List Effect → Book → Book → Type 0
Swap first effects added old new = (n : ℕ) → n ≤ length added → (file : List ℕ) → Image first (effects ++ take n added) file → Recovers file (Ok old) ⊎ Recovers file (Ok new)

-- recovery chooses the current slot, which has the current generation; where none is current no gate is open
abbrev pub HasCurrent : Option Current → List ℕ → Type 0
HasCurrent None file = chosen file ≡ Ok None
HasCurrent (Some current) file = (chosen file ≡ Ok (Some current.slot)) × (generation_of (slot_of file current.slot) ≡ current.generation)

-- the slot of the next book, and its generation
abbrev pub target : Option Current → Slot
target None = First
target (Some current) = other current.slot

abbrev pub next_generation : Option Current → ℕ
next_generation None = 1
next_generation (Some current) = current.generation + 1

-- What is current once the next slot is opened, which was filled with so many bytes: the last eight of them begin with the gate behind
-- the book.
abbrev pub following : Option Current → ℕ → Current
following current filled = record { slot = target current; generation = next_generation current; end = Some (start_of (target current) + (filled - 8)) }

-- the place of the next gate, where amendments may stand behind the current book
abbrev pub end_in : Option Current → Option ℕ
end_in None = None
end_in (Some current) = current.end

-- a delta of m bytes fits into the slot behind the gate at this place, with the next gate
abbrev pub IsRoom : Slot → ℕ → Option ℕ → Type 0
IsRoom slot m None = ⊥
IsRoom slot m (Some end) = end + 8 + m < start_of slot + 8388608

abbrev pub HasRoomFor : Option Current → ℕ → Type 0
HasRoomFor None m = ⊥
HasRoomFor (Some current) m = IsRoom current.slot m current.end

-- what is current once a delta of m bytes stands behind an open gate
abbrev pub advanced : Option Current → ℕ → Option Current
advanced None m = None
advanced (Some current) m = Some (record { slot = current.slot; generation = current.generation; end = option_map (λ end. end + 8 + m) current.end })

-- The bytes of a slot lead to this book, and the next gate stands at this place of the file.
pub record HasBook (slot : Slot) (end : Option ℕ) (book : Book) (bytes : List ℕ) : Type 0 where
  pub may : may_be_length (length_of bytes) ≡ true
  pub leads : LeadsTo (start_of slot + 16) (drop 16 bytes) (length_of bytes) book end

-- the current slot has this book
abbrev pub EndsAs : Option Current → Book → List ℕ → Type 0
EndsAs None book file = Unit {0}
EndsAs (Some current) book file = HasBook current.slot current.end book (slot_of file current.slot)

-- One file of a turn: of a steady one,
pub record SteadyFile (current : Option Current) (book : Book) (file : List ℕ) : Type 0 where
  pub recovers : Recovers file (Ok book)
  pub chooses : HasCurrent current file
  pub ends : EndsAs current book file

-- of one whose other gate is closed,
pub record ClosedFile (current : Option Current) (book : Book) (file : List ℕ) : Type 0 where
  pub steady : SteadyFile current book file
  pub gate : slice_index file (gate_at (target current)) ≡ 0

-- and of one whose other slot begins with the next book.
pub record FilledFile (current : Option Current) (book next : Book) (file : List ℕ) : Type 0 where
  pub closed : ClosedFile current book file
  pub begins : take (length (slot_bytes (next_generation current) next)) (slot_of file (target current)) ≡ slot_bytes (next_generation current) next

-- The file has the size of a store. What may be read of it may be left by a crash, and every file that a crash may leave is such.
pub record EveryImage (P : List ℕ → Type 0) (first : List ℕ) (effects : List Effect) : Type 0 where
  pub size : length first ≡ store_size
  pub calm : (i : ℕ) → i < length first → (byte : ℕ) → IsTrue (readable (cell_of first effects i).reads byte) → IsTrue ((cell_of first effects i).left byte)
  pub images : (file : List ℕ) → Image first effects file → P file

-- A turn stands for a book, over what may have become of a file after these effects.
abbrev pub SteadyStands : Option Current → Book → List ℕ → List Effect → Type 0
SteadyStands current book first effects = EveryImage (SteadyFile current book) first effects

abbrev pub ClosedStands : Option Current → Book → List ℕ → List Effect → Type 0
ClosedStands current book first effects = EveryImage (ClosedFile current book) first effects

-- a book can be the next one: it keeps the rules, `default` is chosen in it, and there is a number for its generation
pub record IsNext (current : Option Current) (next : Book) : Type 0 where
  pub rules : KeepsRules next
  pub chosen : next.name ≡ default_name
  pub epoch : next.epoch < 2 ^ 32
  pub generation : next_generation current < 2 ^ 64

-- the turn and what is current next
pub record FilledStands (filled : Option Current × Current) (book next : Book) (first : List ℕ) (effects : List Effect) : Type 0 where
  pub is : IsNext filled.0 next
  pub follows : filled.1 ≡ following filled.0 (length (slot_bytes (next_generation filled.0) next))
  pub every : EveryImage (FilledFile filled.0 book next) first effects

-- an effect of the store's file, and so neither an event nor a deed
abbrev pub IsOfStore : Effect → Type 0
IsOfStore (Heard event) = ⊥
IsOfStore (Sent conn bytes) = ⊥
IsOfStore (Shut conn) = ⊥
IsOfStore (Started command succeeded) = ⊥
IsOfStore (Wrote at bytes) = Unit {0}
IsOfStore (Torn at n) = Unit {0}
IsOfStore Synced = Unit {0}
IsOfStore SyncFailed = Unit {0}
IsOfStore (Published path bytes) = ⊥
IsOfStore (Printed text) = ⊥

-- the one byte a5 (165) was written, which opens the gate of a slot: with it a checkpoint stands
abbrev pub opened_by : Effect → ℕ
opened_by (Heard event) = 0
opened_by (Sent conn bytes) = 0
opened_by (Shut conn) = 0
opened_by (Started command succeeded) = 0
opened_by (Wrote at bytes) = if bytes_eq bytes (165 ∷ []) then 1 else 0
opened_by (Torn at n) = 0
opened_by Synced = 0
opened_by SyncFailed = 0
opened_by (Published path bytes) = 0
opened_by (Printed text) = 0

-- how often a gate was opened
abbrev pub opened_in : List Effect → ℕ
opened_in [] = 0
opened_in (effect ∷ effects) = opened_by effect + opened_in effects

-- the effects that one write and one sync may add
pub data IsPut (at : ℕ) (bytes : List ℕ) : List Effect → Type 0 where
  nothing : IsPut at bytes []
  tore : 2 ≤ length bytes → IsPut at bytes (Torn at (length bytes) ∷ [])
  wrote : IsPut at bytes (Wrote at bytes ∷ [])
  unsynced : IsPut at bytes (Wrote at bytes ∷ SyncFailed ∷ [])
  done : IsPut at bytes (Wrote at bytes ∷ Synced ∷ [])

-- A call that puts these bytes at this place adds exactly one write of them and one sync, and where it fails less than both.
abbrev pub Puts : {A E : Type 0} → ℕ → List ℕ → Result A E → List Effect → Type 0
Puts at bytes (Ok x) added = added ≡ Wrote at bytes ∷ Synced ∷ []
Puts at bytes (Err e) added = IsPut at bytes added × (added ≢ Wrote at bytes ∷ Synced ∷ [])

-- What the calls keep by the effects that they add, whatever they answer.
pub record Closes (current : Option Current) (result : Result (Option Current) StoreFault) (added : List Effect) : Type 0 where
  pub puts : Puts (gate_at (target current)) (0 ∷ []) result added
  pub store : AllByRecursion IsOfStore added
  pub swap : (first : List ℕ) (effects : List Effect) (book next : Book) → SteadyStands current book first effects → Swap first effects added book next
  pub turn : (first : List ℕ) (effects : List Effect) (book : Book) → SteadyStands current book first effects → IfOk result (λ closed. ClosedStands closed book first (effects ++ added))
  pub opens : IfOk result (λ closed. opened_in added ≡ 0)

pub record Fills (current : Option Current) (body : List ℕ) (result : Result (Option Current × Current) StoreFault) (added : List Effect) : Type 0 where
  pub puts : Puts (start_of (target current)) body result added
  pub store : AllByRecursion IsOfStore added
  pub swap : (first : List ℕ) (effects : List Effect) (book next : Book) → ClosedStands current book first effects → IsNext current next → body ≡ slot_bytes (next_generation current) next → Swap first effects added book next
  pub turn : (first : List ℕ) (effects : List Effect) (book next : Book) → ClosedStands current book first effects → IsNext current next → body ≡ slot_bytes (next_generation current) next
      → IfOk result (λ filled. FilledStands filled book next first (effects ++ added))
  pub opens : (next : Book) → body ≡ slot_bytes (next_generation current) next → IfOk result (λ filled. opened_in added ≡ 0)

pub record Lifts (filled : Option Current × Current) (result : Result (Option Current) StoreFault) (added : List Effect) : Type 0 where
  pub puts : Puts (gate_at (target filled.0)) (165 ∷ []) result added
  pub store : AllByRecursion IsOfStore added
  pub swap : (first : List ℕ) (effects : List Effect) (book next : Book) → FilledStands filled book next first effects → Swap first effects added book next
  pub turn : (first : List ℕ) (effects : List Effect) (book next : Book) → FilledStands filled book next first effects → IfOk result (λ steady. SteadyStands steady next first (effects ++ added))
  pub opens : IfOk result (λ steady. opened_in added ≡ 1)
