-- Where a fault stops a run: which acts it leaves undone, and what the store has then.
use Rattle.std.specs.Prelude.{◌≡◌, ◌⊎◌, ℕ, ◌<◌, ◌^◌, Bool, true, false, IsTrue, List, [], ◌∷◌, ◌++◌, take, Option, Ok}
use Rattle.sm_world.specs.Crash.{Image}
use Rattle.sm_world.specs.Effects.{deeds}
use Rattle.sm_world.specs.declared.effects.Effect.{Effect}
use Rattle.checkpoint_records.specs.declared.records.Book.{Book}
use Rattle.checkpoint_slots.specs.Recovery.{Recovers}
use Rattle.checkpoint_slots.specs.Turns.{SteadyStands, next_generation, opened_in}
use Rattle.checkpoint_slots.specs.declared.turn.Current.{Current}
use Rattle.session_engine.specs.Acts.{book_after, commits_in, deeds_in}
use Rattle.session_engine.specs.Standing.{as_stored}
use Rattle.session_engine.specs.Store.{IsRaised, Leaves, Stored, store_of}
use Rattle.session_engine.specs.declared.acts.Act.{Act}
use Rattle.session_engine.specs.declared.acts.Act.TheVariants.{Say, Shut, Start, Commit, Print, Finish}
use Rattle.session_engine.specs.declared.fault.Halt.{Halt}
use Rattle.session_engine.specs.declared.fault.Halt.TheVariants.{Links, Console, Disk, Worn as WearsOut, NoMemory as WantsMemory}
use Rattle.session_engine.specs.declared.fault.ServeFault.{ServeFault}
use Rattle.session_engine.specs.declared.fault.ServeFault.TheVariants.{Damaged, WrongSize, TooManySessions, DiskFault, LinkFault, ConsoleFault, Worn, Spent, NoMemory}

abbrev pub is_of_links : Act → Bool
is_of_links (Say conn message) = true
is_of_links (Shut conn) = true
is_of_links (Start reason command) = false
is_of_links (Commit book) = false
is_of_links (Print text) = false
is_of_links Finish = false

abbrev pub is_print : Act → Bool
is_print (Say conn message) = false
is_print (Shut conn) = false
is_print (Start reason command) = false
is_print (Commit book) = false
is_print (Print text) = true
is_print Finish = false

abbrev pub is_commit : Act → Bool
is_commit (Say conn message) = false
is_commit (Shut conn) = false
is_commit (Start reason command) = false
is_commit (Commit book) = true
is_commit (Print text) = false
is_commit Finish = false

-- the next of these acts is such
abbrev pub NextIs : (Act → Bool) → List Act → Type 0
NextIs is [] = ⊥
NextIs is (act ∷ acts) = IsTrue (is act)

-- The acts that a halt leaves undone begin with the one that was refused. Memory may be wanting anywhere.
abbrev pub IsRefused : Halt → List Act → Type 0
IsRefused Links left = NextIs is_of_links left
IsRefused Console left = NextIs is_print left
IsRefused Disk left = NextIs is_commit left
IsRefused WearsOut left = NextIs is_commit left
IsRefused WantsMemory left = Unit {0}

-- The same of a run. Where no event could be heard, or was granted, nothing is left.
abbrev pub StopsAt : ServeFault → List Act → Type 0
StopsAt (Damaged at) left = Unit {0}
StopsAt (WrongSize size) left = Unit {0}
StopsAt TooManySessions left = Unit {0}
StopsAt DiskFault left = NextIs is_commit left
StopsAt LinkFault left = (left ≡ []) ⊎ NextIs is_of_links left
StopsAt ConsoleFault left = NextIs is_print left
StopsAt Worn left = NextIs is_commit left
StopsAt Spent left = left ≡ []
StopsAt NoMemory left = Unit {0}

-- A commit behind these acts found a turn of the store with a number for one generation more.
pub record HasFound (store : Stored) (front : List Act) (effects : List Effect) : Type 0 where
  pub done : List Effect
  pub left : List Effect
  pub parts : done ++ left ≡ effects
  pub now : Stored
  pub leaves : Leaves store front done now
  pub number : next_generation now.journal < 2 ^ 64

-- each commit among these acts did
abbrev pub IsNumbered : Stored → List Act → List Effect → Type 0
IsNumbered store acts effects = (front rest : List Act) (book : Book) → front ++ Commit book ∷ rest ≡ acts → HasFound store front effects

-- So did each commit among these acts, and the one behind them where the disk failed at it. Where that one found the store worn, no more
-- generations were used up than checkpoints were written.
abbrev pub HasNumbers : Stored → ServeFault → List Act → List Effect → Type 0
HasNumbers store (Damaged at) front effects = IsNumbered store front effects
HasNumbers store (WrongSize size) front effects = IsNumbered store front effects
HasNumbers store TooManySessions front effects = IsNumbered store front effects
HasNumbers store DiskFault front effects = IsNumbered store front effects × HasFound store front effects
HasNumbers store LinkFault front effects = IsNumbered store front effects
HasNumbers store ConsoleFault front effects = IsNumbered store front effects
HasNumbers store Worn front effects = IsNumbered store front effects × IsRaised (commits_in front) (next_generation store.journal) (2 ^ 64)
HasNumbers store Spent front effects = IsNumbered store front effects
HasNumbers store NoMemory front effects = IsNumbered store front effects

-- A file recovers to the checkpoint behind these acts. Only where the disk failed at the next one may it have that.
abbrev pub IsLeft : ServeFault → Book → List Act → List Act → List ℕ → Type 0
IsLeft fault opening front rest file = Recovers file (Ok (as_stored (book_after opening front))) ⊎ ((fault ≡ DiskFault) × Recovers file (Ok (as_stored (book_after opening (front ++ take 1 rest)))))

-- for each checkpoint among these acts a gate of the store was opened
abbrev pub HasOpened : ServeFault → List Act → List Effect → Type 0
HasOpened fault front effects = (fault ≡ DiskFault) ⊎ (opened_in effects ≡ commits_in front)

-- Acts that a fault cut short: those in front were done, the others were not, and every file that a crash may leave has the checkpoint
-- that stands between them.
pub record Stops (current : Option Current) (opening : Book) (acts : List Act) (fault : ServeFault) (At : List Act → Type 0) (effects : List Effect) : Type 0 where
  pub front : List Act
  pub rest : List Act
  pub parts : front ++ rest ≡ acts
  pub same : deeds effects ≡ deeds_in front
  pub at : At rest
  pub opens : HasOpened fault front effects
  pub numbers : HasNumbers (store_of current opening) fault front effects
  pub leaves : (first : List ℕ) (before : List Effect) → SteadyStands current (as_stored opening) first before → (file : List ℕ) → Image first (before ++ effects) file → IsLeft fault opening front rest file
