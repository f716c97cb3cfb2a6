-- What a run does to the outside: the list of its effects against the script of what it heard.
use Rattle.std.specs.Prelude.{◌≡◌, ◌≢◌, ◌≤◌, ◌<◌, ◌⊎◌, ℕ, Bool, true, false, List, [], ◌∷◌, ◌++◌, length, take, drop, Option, Result, Ok, Err, IsOk, IsErrOf, IfErr}
use Rattle.sm_world.specs.Crash.{Image}
use Rattle.sm_world.specs.Disk.{KeepsToldSize}
use Rattle.sm_world.specs.Effects.{heard, deeds, published}
use Rattle.sm_world.specs.Outside.{Outside, Added}
use Rattle.sm_world.specs.declared.effects.Effect.{Effect}
use Rattle.sm_world.specs.declared.effects.Effect.TheVariants.{Heard}
use Rattle.sm_world.specs.declared.events.Event.{Event}
use Rattle.heard_events.specs.Brought.{IsPrefix, Brought}
use Rattle.checkpoint_records.specs.Rules.{KeepsRules}
use Rattle.checkpoint_records.specs.declared.records.Book.{Book}
use Rattle.checkpoint_slots.specs.Causes.{IsSettled}
use Rattle.checkpoint_slots.specs.Recovery.{Recovers}
use Rattle.checkpoint_slots.specs.Turns.{SteadyFile, SteadyStands, opened_in}
use Rattle.checkpoint_slots.specs.declared.turn.Current.{Current}
use Rattle.session_engine.specs.declared.config.Config.{Config}
use Rattle.session_engine.specs.Acts.{book_after, commits_in, deeds_in, has_finish}
use Rattle.session_engine.specs.Causes.{IsOfRun}
use Rattle.session_engine.specs.Commits.{HasWritten, fails_on_disk}
use Rattle.session_engine.specs.Doing.{items}
use Rattle.session_engine.specs.Machine.{Item, script_of, run_of}
use Rattle.session_engine.specs.Saved.{IsSaved, WearsOut}
use Rattle.session_engine.specs.Settled.{Settle}
use Rattle.session_engine.specs.Standing.{as_stored}
use Rattle.session_engine.specs.Stops.{HasOpened, IsLeft, IsNumbered, Stops, StopsAt}
use Rattle.session_engine.specs.Store.{store_of}
use Rattle.session_engine.specs.declared.acts.Act.{Act}
use Rattle.session_engine.specs.declared.fault.ServeFault.{ServeFault}
use Rattle.session_engine.specs.declared.fault.ServeFault.TheVariants.{Damaged, WrongSize, TooManySessions, DiskFault, LinkFault, ConsoleFault, Worn, Spent, NoMemory}
use Rattle.checkpoint_slots.specs.Layout.{store_size}

-- a run that wasn't cut short by a fault
abbrev pub is_whole : Result (Unit {0}) ServeFault → Bool
is_whole (Ok x) = true
is_whole (Err Spent) = true
is_whole (Err (Damaged at)) = false
is_whole (Err (WrongSize size)) = false
is_whole (Err TooManySessions) = false
is_whole (Err DiskFault) = false
is_whole (Err LinkFault) = false
is_whole (Err ConsoleFault) = false
is_whole (Err Worn) = false
is_whole (Err NoMemory) = false

-- All that follows is said of a session with this cookie that opens this book of its own.
module _ (config : Config) (opening : Book) where
  -- the acts of the session machine for these events
  abbrev pub script : List Event → List Act
  script events = script_of config opening events

  -- each of these events followed by its deeds
  abbrev pub run : List Event → List Item
  run events = run_of config opening events

  -- The first effects of a run, against the script of the events among them.
  pub record IsOnScript (effects : List Effect) : Type 0 where
    -- what was done is what the machine does, as far as it goes
    pub no_other_deed : (n : ℕ) → IsPrefix (deeds (take n effects)) (deeds_in (script (heard (take n effects))))
    -- before anything more is heard, all of it was done
    pub no_deed_missing : (n : ℕ) (event : Event) (more : List Effect) → drop n effects ≡ Heard event ∷ more → deeds (take n effects) ≡ deeds_in (script (heard (take n effects)))
    -- nothing is heard once the run is at its end
    pub heard_in_time : (n : ℕ) (event : Event) (more : List Effect) → drop n effects ≡ Heard event ∷ more → has_finish (script (heard (take n effects))) ≡ false
    -- no file is published
    pub none_published : published effects ≡ []

  -- a file recovers to the last checkpoint that the machine decided
  abbrev pub IsCurrent : List Effect → List ℕ → Type 0
  IsCurrent effects file = Recovers file (Ok (as_stored (book_after opening (script (heard effects)))))

  -- What a crash leaves, where the store began with the bytes `first` and had these effects before the run.
  pub record Keeps (first : List ℕ) (before effects : List Effect) : Type 0 where
    -- at each point every file that a crash may leave recovers to a checkpoint of the script: one that stands behind a front with exactly the deeds done
    pub saved : (n : ℕ) (file : List ℕ) → Image first (before ++ take n effects) file → IsSaved opening (script (heard (take n effects))) (deeds (take n effects)) file
    -- and to the last one, before anything more is heard
    pub none_behind : (n : ℕ) (event : Event) (more : List Effect) → drop n effects ≡ Heard event ∷ more → (file : List ℕ) → Image first (before ++ take n effects) file → IsCurrent (take n effects) file

  -- The effects of a run with this answer are those of the session machine, in its order.
  pub record Carries (effects : List Effect) (answer : Result (Unit {0}) ServeFault) : Type 0 where
    -- at each point of the run
    pub on_script : IsOnScript effects
    -- where no fault cut the run short, all was done
    pub all_done : is_whole answer ≡ true → deeds effects ≡ deeds_in (script (heard effects))
    -- Ok is the machine's own end
    pub ended : IsOk answer → has_finish (script (heard effects)) ≡ true

  -- A run over a store whose turn stood for the opened book.
  pub record Runs (current : Option Current) (answer : Result (Unit {0}) ServeFault) (effects : List Effect) : Type 0 where
    pub carries : Carries effects answer
    -- events and deeds stand in the machine's order
    pub in_order : is_whole answer ≡ true → items effects ≡ run (heard effects)
    pub keeps : (first : List ℕ) (before : List Effect) → SteadyStands current (as_stored opening) first before → Keeps first before effects
    -- where no fault cut the run short, the last checkpoint is in the store
    pub is_current : is_whole answer ≡ true → (first : List ℕ) (before : List Effect) → SteadyStands current (as_stored opening) first before → (file : List ℕ) → Image first (before ++ effects) file → IsCurrent effects file
    -- and a gate of the store was opened for each of the machine's commits
    pub opens : is_whole answer ≡ true → opened_in effects ≡ commits_in (script (heard effects))
    -- no fault of the recovery comes any more
    pub opened : IfErr answer IsOfRun
    -- the store is worn where a commit found no number more
    pub worn : IsErrOf answer Worn → WearsOut (store_of current opening) (script (heard effects)) effects
    -- and it is where one did: else there was a number for each
    pub numbered : is_whole answer ≡ true → IsNumbered (store_of current opening) (script (heard effects)) effects
    -- each commit was appended where it fitted behind the current book, and only else the whole book was written
    pub writes : HasWritten current opening (script (heard effects)) (is_whole answer) (fails_on_disk answer) effects
    -- a fault stopped it at one act, and what a crash leaves has the checkpoint before that act
    pub stopped : IfErr answer (λ fault. Stops current opening (script (heard effects)) fault (StopsAt fault) effects)
    -- only where the disk failed may a byte of the store be in doubt behind it
    pub settles : answer ≢ Err DiskFault → Settle effects

  -- What a call of the engine adds: a run over the events that it was brought.
  pub record Serves (current : Option Current) (coming : Option (List Event)) (turns : ℕ) (answer : Result (Unit {0}) ServeFault) (effects : List Effect) : Type 0 where
    pub runs : Runs current answer effects
    pub brought : Brought coming (heard effects)
    -- no more is heard than was granted
    pub in_turns : length (heard effects) ≤ turns
    -- the turns are spent where so many events were heard and none ended the run
    pub spent : IsErrOf answer Spent → (length (heard effects) ≡ turns) × (has_finish (script (heard effects)) ≡ false)

  -- A run that a fault cut short, over a store that began with this file, did the acts in front of one, or nothing at all. That one was
  -- refused, or memory was wanting; and every file that a crash could leave has exactly the checkpoint behind those that were done. Only
  -- where the disk failed at a checkpoint may a file have that one.
  pub record IsCutShort (file : List ℕ) (fault : ServeFault) (effects : List Effect) : Type 0 where
    pub front : List Act
    pub rest : List Act
    pub parts : front ++ rest ≡ script (heard effects)
    pub same : deeds effects ≡ deeds_in front
    pub at : (effects ≡ []) ⊎ StopsAt fault rest
    pub opens : HasOpened fault front effects
    pub leaves : (left : List ℕ) → Image file effects left → IsLeft fault opening front rest left

  -- The headline, for a store that began with this file: all that was sent, started and shut is the machine's, in its order, and every file
  -- that a crash could leave at any point recovers to one whole checkpoint, at least as new as the last one decided before any deed done.
  pub record KeepsItsWord (file : List ℕ) (answer : Result (Unit {0}) ServeFault) (effects : List Effect) : Type 0 where
    pub carries : Carries effects answer
    pub keeps : Keeps file [] effects
    pub is_current : is_whole answer ≡ true → (left : List ℕ) → Image file effects left → IsCurrent effects left
    pub stopped : IfErr answer (λ fault. IsCutShort file fault effects)
    -- the book that was opened keeps the rules, and is the session's
    pub rules : KeepsRules opening
    pub called : opening.name ≡ config.session

-- The beginning of a run

-- What recovery found is what each file stands for of which no byte is in doubt: this book, as it stands in a store. It has the size of one.
abbrev pub IsRecovered : Outside → Book → Option Current → Type 0
IsRecovered outside book current = (file : List ℕ) → IsSettled outside file → (length file ≡ store_size) × SteadyFile current (as_stored book) file

-- It is the book of this session.
pub record IsOpened (session : List ℕ) (outside : Outside) (book : Book) (current : Option Current) : Type 0 where
  pub recovered : IsRecovered outside book current
  pub called : book.name ≡ session
  pub rules : KeepsRules book

-- Why no run was begun, where the disk tells this size: in this order, the size, a damage, as many other sessions as a store may have, and
-- where there is room for this one an epoch that can't be raised.
abbrev pub IsUnopened : List ℕ → Outside → ℕ → ServeFault → Type 0
IsUnopened session outside told (WrongSize size) = (size ≡ told) × (size ≢ store_size)
IsUnopened session outside told (Damaged at) = (told ≡ store_size) × ((file : List ℕ) → IsSettled outside file → Recovers file (Err at))
IsUnopened session outside told TooManySessions = (told ≡ store_size) × ((book : Book) × (current : Option Current) × IsOpened session outside book current × (length book.others ≡ 8))
IsUnopened session outside told Worn = (told ≡ store_size) × ((book : Book) × (current : Option Current) × IsOpened session outside book current × (length book.others ≤ 7) × (book.epoch ≡ 4294967295))
IsUnopened session outside told DiskFault = Unit {0}
IsUnopened session outside told NoMemory = Unit {0}
IsUnopened session outside told LinkFault = ⊥
IsUnopened session outside told ConsoleFault = ⊥
IsUnopened session outside told Spent = ⊥

-- nothing was done, and the store has its size still
pub record Rests (session : List ℕ) (old new : Outside) (fault : ServeFault) : Type 0 where
  pub told : new.told ≡ old.told
  pub kept : KeepsToldSize old new
  pub cause : IsUnopened session old new.size fault

-- The store was recovered, its epoch can be raised, there is room for this session, and these effects were added over its book.
pub record Opens (session : List ℕ) (old new : Outside) (P : Book → Option Current → List Effect → Type 0) : Type 0 where
  pub book : Book
  pub current : Option Current
  pub recovered : IsRecovered old book current
  pub called : book.name ≡ session
  pub size : new.size ≡ store_size
  pub below : book.epoch < 4294967295
  pub few : length book.others ≤ 7
  pub rules : KeepsRules book
  pub adds : Added old.told new.told (P book current)

-- what a call that opens a store may do at a fault
abbrev pub FailsOr : List ℕ → Outside → Outside → (Book → Option Current → List Effect → Type 0) → ServeFault → Type 0
FailsOr session old new P fault = Rests session old new fault ⊎ Opens session old new P

-- After these effects of a store that began with this file the same world can be served again: no byte of it is in doubt, and it is one of
-- the files that a crash could leave, so that it has the checkpoint that each of those has.
pub record IsReady (file : List ℕ) (new : Outside) (effects : List Effect) : Type 0 where
  pub left : List ℕ
  pub settled : IsSettled new left
  pub image : Image file effects left
