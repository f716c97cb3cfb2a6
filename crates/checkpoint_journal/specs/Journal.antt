-- What the calls of a journal keep. A journal stands for a book where its turn of the store does.
use Rattle.std.specs.Prelude.{Bool, Err, IfErr, IfOk, List, None, Ok, Option, Result, Some, [], false, length, true, ℕ, ◌++◌, ◌+◌, ◌<◌, ◌^◌, ◌≡◌, ◌≤◌, ◌∷◌}
use Rattle.std.specs.List.{AllByRecursion}
use Rattle.sm_world.specs.declared.effects.Effect.{Effect}
use Rattle.checkpoint_records.specs.Spelling.{book_bytes}
use Rattle.checkpoint_records.specs.declared.records.Book.{Book}
use Rattle.checkpoint_changes.specs.Amendments.{Amended, behind_gate, delta_bytes}
use Rattle.checkpoint_records.specs.declared.head.Format.TheVariants.{Several}
use Rattle.checkpoint_changes.specs.Changes.{IsChange, change_cells}
use Rattle.checkpoint_changes.specs.declared.changes.Change.{Change}
use Rattle.checkpoint_slots.specs.Causes.{IsSpellFault}
use Rattle.checkpoint_slots.specs.Layout.{gate_at, start_of}
use Rattle.checkpoint_slots.specs.Recovery.{slot_bytes}
use Rattle.checkpoint_slots.specs.Turns.{IsNext, IsOfStore, SteadyStands, Swap, advanced, end_in, following, next_generation, opened_in, target}
use Rattle.checkpoint_slots.specs.declared.fault.StoreFault.{StoreFault}
use Rattle.checkpoint_slots.specs.declared.fault.StoreFault.TheVariants.{DiskFault}
use Rattle.checkpoint_slots.specs.declared.turn.Current.{Current}
use Rattle.checkpoint_journal.specs.Writing.{PutsAll, bytes_in}

-- how many bytes the changes of a delta have
abbrev pub size_of : List Change → ℕ
size_of delta = length (delta_bytes (change_cells Several) delta)

-- all of an amendment but its gate, and the next gate, which is closed
abbrev pub behind : List Change → List ℕ
behind delta = behind_gate (change_cells Several) delta ++ 0 ∷ []

-- An append puts this behind the gate at a place, and then opens that gate.
abbrev pub append_puts : ℕ → List Change → List (ℕ × List ℕ)
append_puts end delta = (end + 1, behind delta) ∷ (end, 165 ∷ []) ∷ []

-- A compaction closes the gate of the other slot, fills the slot, and opens the gate.
abbrev pub body_puts : Option Current → List ℕ → List (ℕ × List ℕ)
body_puts current body = (gate_at (target current), 0 ∷ []) ∷ (start_of (target current), body) ∷ (gate_at (target current), 165 ∷ []) ∷ []

abbrev pub compact_puts : Option Current → Book → List (ℕ × List ℕ)
compact_puts current book = body_puts current (slot_bytes (next_generation current) book)

-- what a call gives: the journal, or why not, with the journal where no device was touched
abbrev pub Answer : Type 0
Answer = Result (Option Current) (Option (Option Current) × StoreFault)

-- the disk failed, and the store must be recovered anew
abbrev pub is_lost : Answer → Bool
is_lost (Ok journal) = false
is_lost (Err (None, fault)) = true
is_lost (Err (Some journal, fault)) = false

-- where a device was touched, there was a number for one generation more
abbrev pub HadNumber : Option Current → Answer → Type 0
HadNumber current (Ok journal) = next_generation current < 2 ^ 64
HadNumber current (Err (None, fault)) = next_generation current < 2 ^ 64
HadNumber current (Err (Some journal, fault)) = Unit {0}

-- Why not: before any device there was want of memory, or no generation is left; the journal is as it was. Or the disk failed.
abbrev pub IsWhyNot : Option Current → List Effect → Option (Option Current) × StoreFault → Type 0
IsWhyNot current added (None, fault) = fault ≡ DiskFault
IsWhyNot current added (Some journal, fault) = (journal ≡ current) × (added ≡ []) × IsSpellFault (next_generation current) fault

-- What an append keeps by the effects that it adds, whatever it answers.
pub record Appends (current : Option Current) (delta : List Change) (result : Answer) (added : List Effect) : Type 0 where
  pub puts : (end : ℕ) → end_in current ≡ Some end → PutsAll (append_puts end delta) result added
  pub store : AllByRecursion IsOfStore added
  pub swap : (first : List ℕ) (effects : List Effect) (book next : Book) → SteadyStands current book first effects → Amended (change_cells Several) (IsChange Several) book delta next → Swap first effects added book next
  pub turn : (first : List ℕ) (effects : List Effect) (book next : Book) → SteadyStands current book first effects → Amended (change_cells Several) (IsChange Several) book delta next → IfOk result (λ journal. SteadyStands journal next first (effects ++ added))
  -- the generation stays
  pub next : IfOk result (λ journal. journal ≡ advanced current (size_of delta))
  pub opens : IfOk result (λ journal. opened_in added ≡ 1)
  pub bytes : bytes_in added ≤ 8 + size_of delta + 1
  pub why_not : IfErr result (IsWhyNot current added)

-- What is kept by a compaction that writes these bytes into the other slot.
pub record Compacted (current : Option Current) (body : List ℕ) (result : Result (Option Current) StoreFault) (added : List Effect) : Type 0 where
  pub puts : PutsAll (body_puts current body) result added
  pub store : AllByRecursion IsOfStore added
  pub swap : (first : List ℕ) (effects : List Effect) (old book : Book) → SteadyStands current old first effects → IsNext current book → body ≡ slot_bytes (next_generation current) book → Swap first effects added old book
  pub turn : (first : List ℕ) (effects : List Effect) (old book : Book) → SteadyStands current old first effects → IsNext current book → body ≡ slot_bytes (next_generation current) book → IfOk result (λ steady. SteadyStands steady book first (effects ++ added))
  pub next : next_generation current < 2 ^ 64 → IfOk result (λ steady. steady ≡ Some (following current (length body)))
  pub opens : (book : Book) → body ≡ slot_bytes (next_generation current) book → IfOk result (λ steady. opened_in added ≡ 1)

-- What a compaction keeps, which writes this book.
pub record Compacts (current : Option Current) (book : Book) (result : Answer) (added : List Effect) : Type 0 where
  pub puts : PutsAll (compact_puts current book) result added
  pub store : AllByRecursion IsOfStore added
  pub swap : (first : List ℕ) (effects : List Effect) (old : Book) → SteadyStands current old first effects → Swap first effects added old book
  pub turn : (first : List ℕ) (effects : List Effect) (old : Book) → SteadyStands current old first effects → IfOk result (λ journal. SteadyStands journal book first (effects ++ added))
  pub next : IfOk result (λ journal. journal ≡ Some (following current (length (slot_bytes (next_generation current) book))))
  pub opens : IfOk result (λ journal. opened_in added ≡ 1)
  pub bytes : bytes_in added ≤ 1 + (24 + length (book_bytes book)) + 1
  pub why_not : IfErr result (IsWhyNot current added)
