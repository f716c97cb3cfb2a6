-- What a crash leaves of the store, against what was done.
use Rattle.std.specs.Prelude.{◌≡◌, ◌≢◌, ℕ, ◌^◌, false, List, ◌∷◌, ◌++◌, take, Result, Ok, Err, IfErr, IfOk, IsErrOf, is_ok}
use Rattle.sm_world.specs.Crash.{Image}
use Rattle.sm_world.specs.Effects.{Deed, deeds}
use Rattle.sm_world.specs.declared.effects.Effect.{Effect}
use Rattle.book_order.specs.Order.{InOrder}
use Rattle.checkpoint_records.specs.declared.records.Book.{Book}
use Rattle.checkpoint_slots.specs.Recovery.{Recovers}
use Rattle.checkpoint_slots.specs.Turns.{SteadyStands, next_generation, opened_in}
use Rattle.session_engine.specs.Acts.{book_after, books_in, commits_in, deeds_in}
use Rattle.session_engine.specs.Causes.{fault_of}
use Rattle.session_engine.specs.Commits.{AllWritten, HasWritten, is_of_disk}
use Rattle.session_engine.specs.Doing.{CarriesOut}
use Rattle.session_engine.specs.Settled.{Settle}
use Rattle.session_engine.specs.Standing.{as_stored}
use Rattle.session_engine.specs.Store.{IsRaised, Leaves, Stored}
use Rattle.session_engine.specs.Stops.{IsNumbered, IsRefused, Stops}
use Rattle.session_engine.specs.declared.acts.Act.{Act}
use Rattle.session_engine.specs.declared.acts.Act.TheVariants.{Commit}
use Rattle.session_engine.specs.declared.fault.Halt.{Halt}
use Rattle.session_engine.specs.declared.fault.Halt.TheVariants.{Disk, Worn}

-- Some front of the acts has exactly these deeds, and the file recovers to the checkpoint that stands behind it.
pub record IsSaved (opening : Book) (acts : List Act) (done : List Deed) (file : List ℕ) : Type 0 where
  pub front : List Act
  pub rest : List Act
  pub parts : front ++ rest ≡ acts
  pub same : deeds_in front ≡ done
  pub recovers : Recovers file (Ok (as_stored (book_after opening front)))

-- Where the store's turn stood for its book, at each of these effects each file that a crash may leave has a checkpoint of the acts.
abbrev pub Saves : Stored → List Act → List Effect → Type 0
Saves store acts effects =
    (first : List ℕ) (before : List Effect) → SteadyStands store.journal (as_stored store.book) first before
    → (n : ℕ) (file : List ℕ) → Image first (before ++ take n effects) file → IsSaved store.book acts (deeds (take n effects)) file

-- All before a commit was done, which found a turn whose generations are used up. A commit uses up one of them at most.
pub record WearsOut (store : Stored) (acts : List Act) (effects : List Effect) : Type 0 where
  pub front : List Act
  pub rest : List Act
  pub book : Book
  pub parts : front ++ Commit book ∷ rest ≡ acts
  pub same : deeds effects ≡ deeds_in front
  pub now : Stored
  pub leaves : Leaves store front effects now
  pub last : next_generation now.journal ≡ 2 ^ 64
  pub raised : IsRaised (commits_in front) (next_generation store.journal) (next_generation now.journal)

-- what is written of acts that have this answer
abbrev pub WritesActs : Stored → List Act → Result Stored Halt → List Effect → Type 0
WritesActs store acts (Ok next) effects = AllWritten store.journal store.book acts effects next.journal
WritesActs store acts (Err halt) effects = HasWritten store.journal store.book acts false (is_of_disk halt) effects

-- These effects do the acts in their order, all of them at Ok; the store is swapped from checkpoint to checkpoint.
pub record Performs (store : Stored) (acts : List Act) (answer : Result Stored Halt) (effects : List Effect) : Type 0 where
  pub out : CarriesOut acts (is_ok answer) effects
  pub saves : Saves store acts effects
  pub leaves : IfOk answer (Leaves store acts effects)
  pub counts : IfOk answer (λ next. IsRaised (commits_in acts) (next_generation store.journal) (next_generation next.journal))
  pub opens : IfOk answer (λ next. opened_in effects ≡ commits_in acts)
  pub worn : IsErrOf answer Worn → WearsOut store acts effects
  pub numbered : IfOk answer (λ next. IsNumbered store acts effects)
  pub settles : answer ≢ Err Disk → Settle effects
  -- where each book follows the one before it
  pub writes : InOrder store.book (books_in acts) → WritesActs store acts answer effects
  pub stopped : IfErr answer (λ halt. Stops store.journal store.book acts (fault_of halt) (IsRefused halt) effects)
