-- The book that is left where a session of a kept book is put back over the book of the store, or all of them, or where one begins anew; what
-- stands in the way; and what is known of the state of an entry that comes back.
use Rattle.std.specs.Prelude.{◌≡◌, ℕ, ◌+◌, ◌<◌, ◌≤◌, ◌&&◌, nat_le, nat_lt, if◌then◌else◌, List, length, Option, None, Some, Result, Ok, Err}
use Rattle.std.specs.List.{IsDistinct}
use Rattle.std.specs.Str.{bytes_eq}
use Rattle.owned_lists.specs.declared.commands.Command.{Command}
use Rattle.checkpoint_records.specs.Books.{all_entries, chosen_from, default_name, discards, entries_in, entries_of, names, others_than, sessions}
use Rattle.checkpoint_records.specs.Rules.{ids_of}
use Rattle.checkpoint_records.specs.declared.records.Book.{Book}
use Rattle.checkpoint_records.specs.declared.records.Entry.{Entry}
use Rattle.checkpoint_records.specs.declared.records.Named.{Named}
use Rattle.checkpoint_changes.specs.Changes.{with_entries_at}
use Rattle.discard_ledger.specs.Discards.{discard_of, is_among, without_commands}
use Rattle.session_return.specs.declared.fates.Fate.{Fate}
use Rattle.session_return.specs.declared.fates.Fate.TheVariants.{Own, There, Due, Unkept}
use Rattle.session_return.specs.declared.obstacles.Obstacle.{Obstacle}
use Rattle.session_return.specs.declared.obstacles.Obstacle.TheVariants.{NoSession, Clash, TooManyEntries, TooManySessions, Worn}
use Rattle.session_return.specs.declared.obstacles.Refusal.{Refusal}
use Rattle.session_return.specs.declared.obstacles.Refusal.TheVariants.{Stopped, NoMemory}
use Rattle.session_return.specs.declared.returns.Which.{Which}
use Rattle.session_return.specs.declared.returns.Which.TheVariants.{One, All}

-- The book

-- The epoch behind that of the store, which is 0 where it has no checkpoint, and that of the kept book. It is the store's, where the kept
-- one isn't greater. Otherwise nobody knows which IDs were given since, and it is 65,536 above the kept one.
abbrev pub epoch_behind : ℕ → ℕ → ℕ
epoch_behind present kept = if nat_lt 0 present && nat_le kept present then present else kept + 65536

-- the sessions where this one has the entries that it has in the kept ones, or all have
abbrev pub sessions_back : Which → List Named → List Named → List Named
sessions_back (One name) kept present = with_entries_at name (entries_of name kept) present
sessions_back All kept present = kept

-- a book of these sessions, with those of the commands that none of them names
abbrev pub book_of : List Named → List Command → ℕ → Book
book_of all pending epoch = chosen_from default_name all (without_commands (discards (entries_in all)) pending) epoch

-- the book that is left; its pending commands are the store's, but for those that its entries name
abbrev pub put_back : Which → Book → Book → Book
put_back which kept present = book_of (sessions_back which (sessions kept) (sessions present)) present.pending (epoch_behind present.epoch kept.epoch)

-- the entries that come back
abbrev pub entries_back : Which → Book → List Entry
entries_back (One name) kept = entries_of name (sessions kept)
entries_back All kept = all_entries kept

-- the book of the store without the entries of this session, which begins anew over it; what is pending stays so, and nothing becomes due
abbrev pub begun_anew : List ℕ → Book → Book
begun_anew name present = chosen_from default_name (others_than name (sessions present)) present.pending present.epoch

-- What stands in the way

-- Something comes back, no ID is in two sessions, the book keeps within its limits, and a run can begin over it.
pub record MayComeBack (which : Which) (kept present : Book) : Type 0 where
  pub some : 1 ≤ length (entries_back which kept)
  pub ids_differ : IsDistinct bytes_eq (ids_of (all_entries (put_back which kept present)))
  pub few_entries : length (all_entries (put_back which kept present)) ≤ 128
  pub few_sessions : length (sessions (put_back which kept present)) ≤ 8
  pub epoch : epoch_behind present.epoch kept.epoch < 4294967295

-- where this holds of the entries that come back and of the book that would be left, the obstacle isn't there
abbrev pub IsClear : List Entry → Book → Obstacle → Type 0
IsClear back book NoSession = 1 ≤ length back
IsClear back book Clash = IsDistinct bytes_eq (ids_of (all_entries book))
IsClear back book TooManyEntries = length (all_entries book) ≤ 128
IsClear back book TooManySessions = length (sessions book) ≤ 8
IsClear back book Worn = book.epoch < 4294967295

-- the places of the obstacles, in the order in which they are told
abbrev pub place : Obstacle → ℕ
place NoSession = 0
place Clash = 1
place TooManyEntries = 2
place TooManySessions = 3
place Worn = 4

-- none of the first n obstacles is there
abbrev pub AreClear : List Entry → Book → ℕ → Type 0
AreClear back book n = (obstacle : Obstacle) → place obstacle < n → IsClear back book obstacle

-- the obstacle is there, and none that is told before it
abbrev pub StandsFirst : List Entry → Book → Obstacle → Type 0
StandsFirst back book obstacle = (¬ (IsClear back book obstacle)) × AreClear back book (place obstacle)

-- A book is given where nothing stands in the way, and else the first obstacle; want of memory has no cause in the books.
abbrev pub Gives : Which → Book → Book → Result Book Refusal → Type 0
Gives which kept present (Ok book) = MayComeBack which kept present × (book ≡ put_back which kept present)
Gives which kept present (Err (Stopped obstacle)) = StandsFirst (entries_back which kept) (put_back which kept present) obstacle
Gives which kept present (Err NoMemory) = Unit {0}

-- what is found of a book whose epoch isn't known yet: the first obstacle, or that there is none but, perhaps, the epoch
abbrev pub IsFound : List Entry → Book → Option Obstacle → Type 0
IsFound back book None = AreClear back book (place Worn)
IsFound back book (Some obstacle) = (place obstacle < place Worn) × StandsFirst back book obstacle

-- The states of the entries

-- What is known of the state that this command discards, where there is one: it is there while the store's book names the command, and it
-- is yet to be discarded while that is pending. Otherwise nobody keeps it.
abbrev pub fate_by : Book → Option Command → Fate
fate_by present None = Own
fate_by present (Some command) = if names present command then There else (if is_among command present.pending then Due else Unkept)

abbrev pub fate_of : Book → Entry → Fate
fate_of present entry = fate_by present (discard_of entry.table)
