-- What commits write into the store's file. Each makes what changed stand behind the current book, where there is room for it; and only
-- where there is none it writes the whole book anew.
use Rattle.std.specs.Prelude.{◌≡◌, ◌⊎◌, ℕ, Bool, true, false, List, [], ◌∷◌, ◌++◌, length, Option, Some, Result, Ok, Err}
use Rattle.std.specs.List.{flat_map}
use Rattle.sm_world.specs.Effects.{deeds}
use Rattle.sm_world.specs.declared.effects.Effect.{Effect}
use Rattle.sm_world.specs.declared.effects.Effect.TheVariants.{Heard, Sent, Shut, Started, Wrote, Torn, Synced, SyncFailed, Published, Printed}
use Rattle.checkpoint_changes.specs.Changes.{apply}
use Rattle.checkpoint_changes.specs.Differences.{delta_between}
use Rattle.checkpoint_changes.specs.Plain.{IsPlain}
use Rattle.checkpoint_changes.specs.declared.changes.Change.{Change}
use Rattle.checkpoint_journal.specs.Journal.{append_puts, compact_puts, size_of}
use Rattle.checkpoint_journal.specs.Writing.{AreCut, all_put}
use Rattle.checkpoint_records.specs.declared.records.Book.{Book}
use Rattle.checkpoint_slots.specs.Recovery.{slot_bytes}
use Rattle.checkpoint_slots.specs.Turns.{HasRoomFor, advanced, end_in, following, next_generation}
use Rattle.checkpoint_slots.specs.declared.fault.StoreFault.{StoreFault}
use Rattle.checkpoint_slots.specs.declared.fault.StoreFault.TheVariants.{WrongSize, Damaged, DiskFault, Worn, NoMemory}
use Rattle.checkpoint_slots.specs.declared.turn.Current.{Current}
use Rattle.session_engine.specs.Acts.{books_in, deeds_in}
use Rattle.session_engine.specs.Standing.{as_stored}
use Rattle.session_engine.specs.declared.acts.Act.{Act}
use Rattle.session_engine.specs.declared.fault.Halt.{Halt}
use Rattle.session_engine.specs.declared.fault.Halt.TheVariants.{Links, Console, Disk, Worn as WearsOut, NoMemory as WantsMemory}
use Rattle.session_engine.specs.declared.fault.ServeFault.{ServeFault}
use Rattle.session_engine.specs.declared.fault.ServeFault.TheVariants.{Damaged as IsDamaged, WrongSize as HasWrongSize, TooManySessions, DiskFault as FailsOnDisk, LinkFault, ConsoleFault, Worn as IsWorn, Spent, NoMemory as LacksMemory}

-- There is room for what changed, and for the next gate, behind the current book: it is appended there.
pub record IsAppended (current : Option Current) (delta : List Change) (puts : List (ℕ × List ℕ)) (next : Option Current) : Type 0 where
  pub room : HasRoomFor current (size_of delta)
  pub gate : ℕ
  pub stands : end_in current ≡ Some gate
  pub are : puts ≡ append_puts gate delta
  pub leaves : next ≡ advanced current (size_of delta)

-- There is no such room, as where no slot is current: the whole book is written into the other slot.
pub record IsCompacted (current : Option Current) (delta : List Change) (book : Book) (puts : List (ℕ × List ℕ)) (next : Option Current) : Type 0 where
  pub no_room : ¬ (HasRoomFor current (size_of delta))
  pub are : puts ≡ compact_puts current book
  pub leaves : next ≡ Some (following current (length (slot_bytes (next_generation current) book)))

-- A commit, over a turn of the store that has the old book: the delta of the two books, which is plain, tells what changed, and it goes by
-- one of both ways.
pub record IsCommit (current : Option Current) (old book : Book) (puts : List (ℕ × List ℕ)) (next : Option Current) : Type 0 where
  pub delta : List Change
  pub exact : delta ≡ delta_between old book
  pub plain : IsPlain old book delta
  pub leads : apply old delta ≡ Some book
  pub way : IsAppended current delta puts next ⊎ IsCompacted current delta book puts next

-- the commits of these books as they stand in the store, one after the other
abbrev pub AreCommits : Option Current → Book → List Book → List (ℕ × List ℕ) → Option Current → Type 0
AreCommits current old [] puts last = (puts ≡ []) × (last ≡ current)
AreCommits current old (book ∷ books) puts last =
    (next : Option Current) × (first : List (ℕ × List ℕ)) × (rest : List (ℕ × List ℕ)) × IsCommit current (as_stored old) (as_stored book) first next × AreCommits next book books rest last × (puts ≡ first ++ rest)

-- the effects on the store's file
abbrev pub of_store : Effect → List Effect
of_store (Heard event) = []
of_store (Sent conn bytes) = []
of_store (Shut conn) = []
of_store (Started command succeeded) = []
of_store (Wrote at bytes) = Wrote at bytes ∷ []
of_store (Torn at n) = Torn at n ∷ []
of_store Synced = Synced ∷ []
of_store SyncFailed = SyncFailed ∷ []
of_store (Published path bytes) = []
of_store (Printed text) = []

abbrev pub store_effects : List Effect → List Effect
store_effects effects = flat_map of_store effects

-- all of these puts were done, and where the disk failed not all
abbrev pub DoPuts : Bool → List (ℕ × List ℕ) → List Effect → Type 0
DoPuts false puts effects = effects ≡ all_put puts
DoPuts true puts effects = AreCut puts effects

-- What effects wrote of a list of acts, over a turn of the store: the commits among those that were done, of all acts where `whole` holds.
-- Where the disk failed they are those up to the one at which it did, and not all of that one.
pub record HasWritten (current : Option Current) (old : Book) (acts : List Act) (whole failed : Bool) (effects : List Effect) : Type 0 where
  pub front : List Act
  pub rest : List Act
  pub parts : front ++ rest ≡ acts
  pub none_left : whole ≡ true → rest ≡ []
  pub same : deeds effects ≡ deeds_in front
  pub puts : List (ℕ × List ℕ)
  pub last : Option Current
  pub commits : AreCommits current old (books_in front) puts last
  pub done : DoPuts failed puts (store_effects effects)

-- all that was written of these acts, and the turn that they left
pub record AllWritten (current : Option Current) (old : Book) (acts : List Act) (effects : List Effect) (last : Option Current) : Type 0 where
  pub has : HasWritten current old acts true false effects
  pub leaves : has.last ≡ last

-- the same of one commit with this answer, where its book follows the old one
abbrev pub WritesBook : Option Current → Book → Book → Result (Option Current) StoreFault → List Effect → Type 0
WritesBook current old book (Ok next) added = (puts : List (ℕ × List ℕ)) × IsCommit current old book puts next × (added ≡ all_put puts)
WritesBook current old book (Err DiskFault) added = (puts : List (ℕ × List ℕ)) × (next : Option Current) × IsCommit current old book puts next × AreCut puts added
WritesBook current old book (Err (WrongSize size)) added = Unit {0}
WritesBook current old book (Err (Damaged at)) added = Unit {0}
WritesBook current old book (Err Worn) added = Unit {0}
WritesBook current old book (Err NoMemory) added = Unit {0}

abbrev pub is_of_disk : Halt → Bool
is_of_disk Links = false
is_of_disk Console = false
is_of_disk Disk = true
is_of_disk WearsOut = false
is_of_disk WantsMemory = false

-- the disk failed
abbrev pub is_disk_fault : ServeFault → Bool
is_disk_fault (IsDamaged at) = false
is_disk_fault (HasWrongSize size) = false
is_disk_fault TooManySessions = false
is_disk_fault FailsOnDisk = true
is_disk_fault LinkFault = false
is_disk_fault ConsoleFault = false
is_disk_fault IsWorn = false
is_disk_fault Spent = false
is_disk_fault LacksMemory = false

abbrev pub fails_on_disk : Result (Unit {0}) ServeFault → Bool
fails_on_disk (Ok x) = false
fails_on_disk (Err fault) = is_disk_fault fault
