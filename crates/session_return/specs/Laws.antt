-- Laws of what comes back, of all books.
use Rattle.std.specs.Prelude.{◌≡◌, ◌≢◌, ℕ, ◌≤◌, false, true, not, List, []}
use Rattle.std.specs.List.{All as AllOf, AllByRecursion, Contains}
use Rattle.owned_lists.specs.declared.commands.Command.{Command}
use Rattle.checkpoint_records.specs.Books.{choose, discards, names, sessions}
use Rattle.checkpoint_records.specs.Rules.{KeepsRules}
use Rattle.checkpoint_records.specs.declared.records.Book.{Book}
use Rattle.discard_ledger.specs.Discards.{is_among, without_commands}
use Rattle.session_return.specs.Returns.{MayComeBack, begun_anew, entries_back, epoch_behind, put_back}
use Rattle.session_return.specs.declared.returns.Which.{Which}
use Rattle.session_return.specs.declared.returns.Which.TheVariants.{One, All}

-- where nothing stands in the way, what is left keeps the rules of books
abbrev pub ReturnsKeepRules : Type 0
ReturnsKeepRules = (which : Which) (kept present : Book) → KeepsRules kept → KeepsRules present → MayComeBack which kept present → KeepsRules (put_back which kept present)

-- The session has the entries that it has in the kept book, and each other session those that it has in the store's.
abbrev pub OtherSessionsStay : Type 0
OtherSessionsStay =
    (name : List ℕ) (kept present : Book) → KeepsRules kept → KeepsRules present → ((choose name (put_back (One name) kept present)).entries ≡ (choose name kept).entries)
    × ((other : List ℕ) → other ≢ name → (choose other (put_back (One name) kept present)).entries ≡ (choose other present).entries)

-- where all come back, the sessions are the kept ones
abbrev pub AllSessionsComeBack : Type 0
AllSessionsComeBack = (kept present : Book) → KeepsRules kept → sessions (put_back All kept present) ≡ sessions kept

-- the epoch is below neither that of the store nor that of the kept book
abbrev pub EpochsNeverFall : Type 0
EpochsNeverFall = (which : Which) (kept present : Book) → (present.epoch ≤ (put_back which kept present).epoch) × (kept.epoch ≤ (put_back which kept present).epoch)

-- a command that is pending in the store is named afterwards exactly where it isn't pending any more
abbrev pub DueDiscardsStay : Type 0
DueDiscardsStay =
    (which : Which) (kept present : Book) (command : Command) → is_among command present.pending ≡ true
    → names (put_back which kept present) command ≡ not (is_among command (put_back which kept present).pending)

-- each command that is pending afterwards is pending in the store
abbrev pub NothingBecomesDue : Type 0
NothingBecomesDue = (which : Which) (kept present : Book) → AllOf (λ command. Contains present.pending command) (put_back which kept present).pending

-- no command that is pending afterwards is one that an entry names which came back
abbrev pub NothingBackIsDue : Type 0
NothingBackIsDue =
    (which : Which) (kept present : Book) → AllByRecursion (λ command. is_among command (discards (entries_back which kept)) ≡ false) (put_back which kept present).pending

-- the same once more changes nothing
abbrev pub AgainIsTheSame : Type 0
AgainIsTheSame =
    (which : Which) (kept present : Book) → KeepsRules kept → KeepsRules present → put_back which kept (put_back which kept present) ≡ put_back which kept present

-- what is left where a session is put back, and then the same session from the book that was there before
abbrev pub there_and_back : List ℕ → Book → Book → Book
there_and_back name kept present = put_back (One name) present (put_back (One name) kept present)

-- The way back leads to the sessions that were there, and to their epoch where none were left out. What is pending then is what was, but
-- for the commands that the kept entries name.
abbrev pub ThereIsAWayBack : Type 0
ThereIsAWayBack =
    (name : List ℕ) (kept present : Book) → KeepsRules kept → KeepsRules present → (sessions (there_and_back name kept present) ≡ sessions present)
    × (epoch_behind present.epoch kept.epoch ≡ present.epoch → (there_and_back name kept present).epoch ≡ present.epoch)
    × ((there_and_back name kept present).pending ≡ without_commands (discards (choose name kept).entries) present.pending)

-- A session that begins anew has no entries, and each other one has those that it had.
abbrev pub OneSessionBeginsAnew : Type 0
OneSessionBeginsAnew =
    (name : List ℕ) (present : Book) → KeepsRules present → KeepsRules (begun_anew name present) × ((choose name (begun_anew name present)).entries ≡ [])
    × ((other : List ℕ) → other ≢ name → (choose other (begun_anew name present)).entries ≡ (choose other present).entries)
