-- What a restore does to a store, and why it doesn't.
use Rattle.std.specs.Prelude.{◌≡◌, ◌≢◌, ◌⊎◌, ℕ, ◌^◌, List, [], ◌∷◌, ◌++◌, codes, Option, None, Some, Result, Ok, Err}
use Rattle.sm_world.specs.Outside.{Outside, Rose}
use Rattle.sm_world.specs.declared.effects.Effect.{Effect}
use Rattle.sm_world.specs.declared.effects.Effect.TheVariants.{Printed, Published}
use Rattle.checkpoint_records.specs.Books.{default_name}
use Rattle.checkpoint_records.specs.Rules.{KeepsRules}
use Rattle.checkpoint_records.specs.Spelling.{book_bytes}
use Rattle.checkpoint_records.specs.declared.records.Book.{Book}
use Rattle.checkpoint_slots.specs.Causes.{IsSettled}
use Rattle.checkpoint_slots.specs.Layout.{store_size}
use Rattle.checkpoint_slots.specs.Recovery.{Recovers}
use Rattle.checkpoint_slots.specs.Turns.{SteadyFile, next_generation}
use Rattle.checkpoint_slots.specs.declared.fault.StoreFault.{StoreFault}
use Rattle.checkpoint_slots.specs.declared.turn.Current.{Current}
use Rattle.session_return.specs.Returns.{MayComeBack, StandsFirst, entries_back, put_back}
use Rattle.session_return.specs.declared.returns.Which.{Which}
use Rattle.store_return.specs.Exchange.{Exchanges}
use Rattle.store_return.specs.Lines.{return_lines}
use Rattle.store_return.specs.declared.restoring.Plan.{Plan}
use Rattle.store_return.specs.declared.faults.Fault.{Fault}
use Rattle.store_return.specs.declared.faults.Fault.TheVariants.{Damaged, WrongSize, Stopped, Disk, Console, Worn, NoMemory}

-- The turn and the book that were found in the store, where no byte of it was in doubt.
pub record Found (old : Outside) (current : Option Current) (present : Book) : Type 0 where
  pub stands : (file : List ℕ) → IsSettled old file → SteadyFile current present file
  pub rules : KeepsRules present
  pub chosen : present.name ≡ default_name

-- where a file is named for it, the store's book goes there first
abbrev pub aside : Option (List ℕ) → Book → List Effect
aside None present = []
aside (Some path) present = Published path (book_bytes present) ∷ []

-- The book of the store is put aside and exchanged, and then this text is printed.
pub record IsDone (current : Option Current) (present : Book) (beside : Option (List ℕ)) (book : Book) (text : List ℕ) (effects : List Effect) : Type 0 where
  pub next : Option Current
  pub written : List Effect
  pub exchanges : Exchanges current present book (Ok next) written
  pub is : effects ≡ aside beside present ++ (written ++ Printed text ∷ [])

-- It came to the exchange, which ended so, and not to the text.
pub record BreaksOff (current : Option Current) (present : Book) (beside : Option (List ℕ)) (book : Book) (effects : List Effect) : Type 0 where
  pub answer : Result (Option Current) StoreFault
  pub written : List Effect
  pub exchanges : Exchanges current present book answer written
  pub is : effects ≡ aside beside present ++ written

abbrev pub CarriesOut : Option Current → Book → Option (List ℕ) → Book → List ℕ → Result (Unit {0}) Fault → List Effect → Type 0
CarriesOut current present beside book text (Ok x) effects = IsDone current present beside book text effects
CarriesOut current present beside book text (Err fault) effects = (effects ≡ []) ⊎ BreaksOff current present beside book effects

-- The store's book is exchanged for the one that is left, of which the lines tell. Or nothing was done; or that came to the exchange.
pub record Restores (which : Which) (kept : Book) (beside : Option (List ℕ)) (old : Outside) (result : Result (Unit {0}) Fault) (effects : List Effect) : Type 0 where
  pub current : Option Current
  pub present : Book
  pub found : Found old current present
  pub may : MayComeBack which kept present
  pub carries : CarriesOut current present beside (put_back which kept present) (return_lines (codes "restored") which kept present) result effects

-- it was done so, or it failed before it came to that, and nothing was done
abbrev pub RestoresOr : Which → Book → Option (List ℕ) → Outside → Result (Unit {0}) Fault → List Effect → Type 0
RestoresOr which kept beside old (Ok x) effects = Restores which kept beside old (Ok x) effects
RestoresOr which kept beside old (Err fault) effects = (effects ≡ []) ⊎ Restores which kept beside old (Err fault) effects

-- only the lines are printed, under another heading
pub record Shows (which : Which) (kept : Book) (old : Outside) (effects : List Effect) : Type 0 where
  pub current : Option Current
  pub present : Book
  pub found : Found old current present
  pub may : MayComeBack which kept present
  pub is : effects ≡ Printed (return_lines (codes "would restore") which kept present) ∷ []

abbrev pub ShowsOr : Which → Book → Outside → Result (Unit {0}) Fault → List Effect → Type 0
ShowsOr which kept old (Ok x) effects = Shows which kept old effects
ShowsOr which kept old (Err fault) effects = effects ≡ []

-- What the store is to become, and the lines under this heading.
pub record IsPlan (heading : List ℕ) (which : Which) (kept present : Book) (plan : Plan) : Type 0 where
  pub may : MayComeBack which kept present
  pub book : plan.book ≡ put_back which kept present
  pub text : plan.text ≡ return_lines heading which kept present

-- Why the store wasn't opened: it is damaged, it has another size, its disk failed, or memory was wanting.
abbrev pub IsUnopened : Outside → Outside → Fault → Type 0
IsUnopened old new (Damaged at) = (file : List ℕ) → IsSettled old file → Recovers file (Err at)
IsUnopened old new (WrongSize size) = size ≢ store_size
IsUnopened old new Disk = Rose old.faults.disk new.faults.disk
IsUnopened old new NoMemory = Unit {0}
IsUnopened old new fault = ⊥

-- why nothing is put back over the store's book
abbrev pub IsUnplanned : Which → Book → Book → Fault → Type 0
IsUnplanned which kept present (Stopped obstacle) = StandsFirst (entries_back which kept) (put_back which kept present) obstacle
IsUnplanned which kept present NoMemory = Unit {0}
IsUnplanned which kept present fault = ⊥

-- The disk failed, or memory was wanting.
abbrev pub IsOfDisk : Outside → Outside → Fault → Type 0
IsOfDisk old new Disk = Rose old.faults.disk new.faults.disk
IsOfDisk old new NoMemory = Unit {0}
IsOfDisk old new fault = ⊥

-- The console failed, or memory was wanting.
abbrev pub IsOfConsole : Outside → Outside → Fault → Type 0
IsOfConsole old new Console = Rose old.faults.console new.faults.console
IsOfConsole old new NoMemory = Unit {0}
IsOfConsole old new fault = ⊥

-- Why what is planned isn't carried out.
abbrev pub IsOfCarrying : Option Current → Outside → Outside → Fault → Type 0
IsOfCarrying current old new Disk = Rose old.faults.disk new.faults.disk
IsOfCarrying current old new Console = Rose old.faults.console new.faults.console
IsOfCarrying current old new Worn = next_generation current ≡ 2 ^ 64
IsOfCarrying current old new NoMemory = Unit {0}
IsOfCarrying current old new fault = ⊥

-- Why nothing was put back. The store wasn't opened; or it was, with this turn and this book, and then this stood in the way, or what was
-- planned wasn't carried out.
pub data HasCause (which : Which) (kept : Book) (old new : Outside) (fault : Fault) : Type 0 where
  unopened : IsUnopened old new fault → HasCause which kept old new fault
  unplanned : (current : Option Current) (present : Book) → Found old current present → IsUnplanned which kept present fault → HasCause which kept old new fault
  uncarried : (current : Option Current) (present : Book) → Found old current present → MayComeBack which kept present → IsOfCarrying current old new fault → HasCause which kept old new fault
