-- The store's turn with the book that stands in it, and what a commit writes.
use Rattle.std.specs.Prelude.{◌≡◌, ◌≢◌, ℕ, ◌+◌, ◌<◌, ◌≤◌, ◌^◌, List, [], ◌++◌, Option, Some, Result, Ok, Err, IfErr, IfOk}
use Rattle.std.specs.List.{AllByRecursion}
use Rattle.sm_world.specs.declared.effects.Effect.{Effect}
use Rattle.checkpoint_records.specs.declared.head.Format.TheVariants.{Several}
use Rattle.checkpoint_records.specs.declared.records.Book.{Book}
use Rattle.checkpoint_changes.specs.Changes.{IsChange, apply}
use Rattle.checkpoint_changes.specs.Differences.{delta_between}
use Rattle.checkpoint_changes.specs.Plain.{IsPlain, KeepOrder}
use Rattle.checkpoint_changes.specs.declared.changes.Change.{Change}
use Rattle.checkpoint_slots.specs.Turns.{IsOfStore, SteadyStands, Swap, next_generation, opened_in}
use Rattle.checkpoint_slots.specs.declared.fault.StoreFault.{StoreFault}
use Rattle.checkpoint_slots.specs.declared.fault.StoreFault.TheVariants.{WrongSize, Damaged, DiskFault, Worn, NoMemory}
use Rattle.checkpoint_slots.specs.declared.turn.Current.{Current}
use Rattle.session_engine.specs.Acts.{book_after}
use Rattle.session_engine.specs.Commits.{WritesBook}
use Rattle.session_engine.specs.Settled.{Settle}
use Rattle.session_engine.specs.Standing.{as_stored}
use Rattle.session_engine.specs.declared.acts.Act.{Act}

-- The turn of the journal, and the book of the session that stands in it.
pub record Stored : Type 0 where
  pub journal : Option Current
  pub book : Book

abbrev pub store_of : Option Current → Book → Stored
store_of current book = record { journal = current; book = book }

-- These changes, which are the delta of both books, make the one of the other.
pub record Makes (old : Book) (delta : List Change) (book : Book) : Type 0 where
  pub changes : AllByRecursion (IsChange Several) delta
  pub applied : apply old delta ≡ Some book
  pub exact : delta ≡ delta_between old book
  pub plain : KeepOrder old book → IsPlain old book delta

-- a number that stayed, or rose, by so much at most
pub record IsRaised (most old new : ℕ) : Type 0 where
  pub at_least : old ≤ new
  pub at_most : new ≤ old + most

-- Why a book wasn't written: the disk failed, though there was a number for one generation more. Or nothing was done, where there was none,
-- or for want of memory.
abbrev pub WhyUnwritten : Option Current → List Effect → StoreFault → Type 0
WhyUnwritten current added (WrongSize size) = ⊥
WhyUnwritten current added (Damaged at) = ⊥
WhyUnwritten current added DiskFault = next_generation current < 2 ^ 64
WhyUnwritten current added Worn = (added ≡ []) × (next_generation current ≡ 2 ^ 64)
WhyUnwritten current added NoMemory = added ≡ []

-- The effects of a commit over a turn that stands for the old book: at each point every file that a crash may leave has the old book or the
-- new one, and at Ok the turn stands for the new one.
pub record Writes (current : Option Current) (old book : Book) (result : Result (Option Current) StoreFault) (added : List Effect) : Type 0 where
  pub store : AllByRecursion IsOfStore added
  pub swap : (first : List ℕ) (before : List Effect) → SteadyStands current old first before → Swap first before added old book
  pub turn : (first : List ℕ) (before : List Effect) → SteadyStands current old first before → IfOk result (λ next. SteadyStands next book first (before ++ added))
  pub raised : IfOk result (λ next. IsRaised 1 (next_generation current) (next_generation next))
  pub numbered : IfOk result (λ next. next_generation current < 2 ^ 64)
  pub opens : IfOk result (λ next. opened_in added ≡ 1)
  pub settles : result ≢ Err DiskFault → Settle added
  pub why_not : IfErr result (WhyUnwritten current added)
  pub commits : KeepOrder old book → WritesBook current old book result added

-- the journal behind a commit
abbrev pub journal_of : Result Stored StoreFault → Result (Option Current) StoreFault
journal_of (Ok store) = Ok store.journal
journal_of (Err fault) = Err fault

-- the store has the checkpoint behind the acts, and its turn stands for that
abbrev pub Leaves : Stored → List Act → List Effect → Stored → Type 0
Leaves store acts effects next =
    (next.book ≡ book_after store.book acts)
    × ((first : List ℕ) (before : List Effect) → SteadyStands store.journal (as_stored store.book) first before → SteadyStands next.journal (as_stored next.book) first (before ++ effects))
