-- What a crash leaves of the store, and what later runs give, against what was seen.
use Rattle.std.specs.Prelude.{List, Ok, Result, [], false, take, true, ℕ, ◌+◌, ◌++◌, ◌<◌, ◌^◌, ◌≡◌, ◌≢◌}
use Rattle.std.specs.List.{Contains}
use Rattle.sm_world.specs.Crash.{Image}
use Rattle.sm_world.specs.Effects.{Deed, deeds, heard}
use Rattle.owned_lists.specs.declared.commands.Command.{Command}
use Rattle.sm_world.specs.declared.effects.Effect.{Effect}
use Rattle.sm_world.specs.declared.events.Event.{Event}
use Rattle.session_engine.specs.declared.config.Config.{Config}
use Rattle.checkpoint_records.specs.declared.records.Book.{Book}
use Rattle.checkpoint_records.specs.Books.{choose, names}
use Rattle.checkpoint_records.specs.Rules.{KeepsRules}
use Rattle.checkpoint_slots.specs.Recovery.{Recovers}
use Rattle.session_engine.specs.Acts.{deeds_in}
use Rattle.session_engine.specs.Carries.{KeepsItsWord}
use Rattle.session_engine.specs.Machine.{script_of}
use Rattle.session_engine.specs.Saved.{IsSaved}
use Rattle.session_engine.specs.declared.fault.ServeFault.{ServeFault}
use Rattle.session_notes.specs.Keeping.{is_discarded, new_ids}
use Rattle.session_notes.specs.Kept.{Stands, kept_in}
use Rattle.session_notes.specs.Laws.{IsOpenable}
use Rattle.session_lines.specs.Laws.{IsSeen}
use Rattle.session_lines.specs.Lines.{Seen, acts_in, line, notes}
use Rattle.session_lines.specs.Runs.{IsDone, IsNextDeed}

-- A file recovers to a store in which this is the session's book.
abbrev pub HasSaved : Config → List ℕ → Book → Type 0
HasSaved config file saved = (stored : Book) × Recovers file (Ok stored) × (choose config.session stored ≡ saved)

-- Once a new ID was given, each file that a crash could leave recovers to a book of the run's epoch, and to none of an older one.
-- The next run has the epoch after that of its file, so it doesn't give this ID again.
abbrev pub FilesKeepUp : Type 0
FilesKeepUp =
    (config : Config) (book saved : Book) (events : List Event) (done : List Deed) (file : List ℕ) → IsSaved book (script_of config book events) done file → HasSaved config file saved
    → (seen later : List Seen) → seen ++ later ≡ line config book events → deeds_in (acts_in seen) ≡ done → new_ids (notes seen) ≢ [] → saved.epoch ≡ book.epoch + 1

-- Once a command was started to discard a state, no file that a crash could leave recovers to a book that names it, unless somebody
-- has set it as his DiscardCommand again. What is seen goes up to the first deed that was not done. This asks that the opened book
-- is the session's and keeps the rules.
abbrev pub FilesForgetDiscards : Type 0
FilesForgetDiscards =
    (config : Config) (book saved : Book) (events : List Event) (done : List Deed) (file : List ℕ) → KeepsRules book → book.name ≡ config.session → IsSaved book (script_of config book events) done file → HasSaved config file saved
    → (seen later : List Seen) → seen ++ later ≡ line config book events → deeds_in (acts_in seen) ≡ done → IsNextDeed later
    → (command : Command) → is_discarded command (notes seen) ≡ true → names saved command ≡ false

-- Each file that a crash could leave recovers to a book that has what is kept: under each ID the table of its last completed save, or
-- of a save that its client told since. What is seen goes up to the first deed that was not done. This asks that the opened book is
-- the session's and keeps the rules, and that its epoch has one after it.
abbrev pub FilesKeepWhatWasSaved : Type 0
FilesKeepWhatWasSaved =
    (config : Config) (book saved : Book) (events : List Event) (done : List Deed) (file : List ℕ) → IsOpenable book → book.name ≡ config.session → IsSaved book (script_of config book events) done file → HasSaved config file saved
    → (seen later : List Seen) → seen ++ later ≡ line config book events → deeds_in (acts_in seen) ≡ done → IsNextDeed later
    → (id : List ℕ) → kept_in book id (notes seen) ≢ [] → Stands saved id (kept_in book id (notes seen))

-- Each file that a crash could leave has the other sessions, beside the one that runs, as they were opened: each with its name and its
-- entries, and none besides. This asks that the opened book is the session's and keeps the rules.
abbrev pub FilesKeepOtherSessions : Type 0
FilesKeepOtherSessions =
    (config : Config) (book saved : Book) (events : List Event) (done : List Deed) (file : List ℕ) → KeepsRules book → book.name ≡ config.session → IsSaved book (script_of config book events) done file → HasSaved config file saved
    → (saved.name ≡ book.name) × (saved.others ≡ book.others)

-- The checkpoint of a file, against what was done in a run up to here.
pub record IsSafe (config : Config) (book : Book) (effects : List Effect) (saved : Book) : Type 0 where
  pub done : IsDone config book (heard effects) (deeds effects)
  -- it is of the session that runs, and its other sessions are those of the opened book
  pub others : (saved.name ≡ book.name) × (saved.others ≡ book.others)
  -- where an ID was new, the checkpoint is of the run's epoch
  pub ids : new_ids (notes done.front) ≢ [] → saved.epoch ≡ book.epoch + 1
  -- it names no state that was discarded and not set again
  pub discards : KeepsRules book → (command : Command) → is_discarded command (notes done.front) ≡ true → names saved command ≡ false
  -- under each ID it has what is kept
  pub saves : IsOpenable book → (id : List ℕ) → kept_in book id (notes done.front) ≢ [] → Stands saved id (kept_in book id (notes done.front))

-- So it is at each point of every run that keeps its word, with each file that a crash could leave.
abbrev pub EveryFileIsSafe : Type 0
EveryFileIsSafe =
    (config : Config) (book saved : Book) (first left : List ℕ) (answer : Result (Unit {0}) ServeFault) (effects : List Effect) → KeepsItsWord config book first answer effects
    → (n : ℕ) → Image first (take n effects) left → HasSaved config left saved → IsSafe config book (take n effects) saved

-- A session of another name has in each such file the entries that it had in the store that was opened. So a later run of it begins with
-- them, wherever the crash came.
abbrev pub OtherSessionsBeginAlike : Type 0
OtherSessionsBeginAlike =
    (config : Config) (was is : Book) (first left : List ℕ) (answer : Result (Unit {0}) ServeFault) (effects : List Effect) → KeepsItsWord config (choose config.session was) first answer effects
    → (n : ℕ) → Image first (take n effects) left → Recovers left (Ok is) → (other : List ℕ) → other ≢ config.session → (choose other is).entries ≡ (choose other was).entries

-- A run over a book of a later epoch gives none of the IDs that were new in this one. A run is over a book whose epoch has one after it.
abbrev pub LaterRunsGiveOtherIds : Type 0
LaterRunsGiveOtherIds =
    (config next : Config) (book saved : Book) → book.epoch < saved.epoch → saved.epoch + 1 < 2 ^ 32
    → (seen later : List Seen) → IsSeen config book seen → IsSeen next saved later
    → (id : List ℕ) → Contains (new_ids (notes seen)) id → ¬ (Contains (new_ids (notes later)) id)
