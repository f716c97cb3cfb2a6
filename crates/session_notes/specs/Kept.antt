-- What notes say of what the book keeps: under each ID the tables of which one stands there, and the laws of that. A run begins with
-- the book that was opened.
use Rattle.std.specs.Prelude.{Bool, List, None, Option, Some, [], cond, false, not, true, ℕ, ◌&&◌, ◌++◌, ◌||◌, ◌∷◌, ◌≡◌, ◌≢◌}
use Rattle.std.specs.List.{Contains, list_all}
use Rattle.std.specs.Str.{bytes_eq}
use Rattle.sm_world.specs.declared.events.Order.TheVariants.{Forget}
use Rattle.ice_values.specs.declared.property.Property.{Property}
use Rattle.xsmp_properties.specs.Readers.{hint_of}
use Rattle.xsmp_messages.specs.declared.message.XsmpMessage.TheVariants.{Die, RegisterClientReply, SaveComplete, SaveYourselfDone}
use Rattle.checkpoint_records.specs.declared.records.Book.{Book}
use Rattle.checkpoint_records.specs.declared.records.Entry.{Entry as Record}
use Rattle.restart_plan.specs.Restarts.{is_immediately}
use Rattle.session_model.specs.declared.events.Act.TheVariants.{Say}
use Rattle.session_model.specs.Books.{is_anyway, is_eligible}
use Rattle.session_model.specs.Reading.{has_that_id}
use Rattle.session_model.specs.Tables.{entry_of}
use Rattle.session_notes.specs.Keeping.{book_in, id_in, snapshot_in, table_in}
use Rattle.session_notes.specs.Laws.{IsOpenable, IsSeen}
use Rattle.session_notes.specs.Notes.{Did, Entry, Given, Gone, Heard, Note, Ordered, notes}
use Rattle.session_notes.specs.Watching.{is_to_save, was_asked}

-- some connection is registered under this ID
abbrev pub is_held : List ℕ → List Note → Bool
is_held id [] = false
is_held id (Given c (RegisterClientReply other) ∷ notes) = bytes_eq id other || is_held id notes
is_held id (Gone c ∷ notes) = not (has_that_id id (id_in c notes)) && is_held id notes
is_held id (note ∷ notes) = is_held id notes

-- Tables of an ID

-- the entry with this table stays in the book while its client isn't there
abbrev pub is_lasting : List Property → Bool
is_lasting table = is_anyway (hint_of table) || is_immediately (hint_of table)

-- these tables, where each of them stays without its client; else none is sure to stand
abbrev pub lasting : List (List Property) → List (List Property)
lasting tables = cond (list_all is_lasting tables) tables []

-- One of these stands, or this one, which may soon take its place. Where the rules let this one into no book, none is sure to stand.
abbrev pub or_table : List Property → List (List Property) → List (List Property)
or_table table [] = []
or_table table (first ∷ tables) = cond (is_eligible table) (first ∷ tables ++ table ∷ []) []

-- A save is complete: the snapshot stands, where the rules let it into a book. Where there is none what stood stands still.
abbrev pub completed : Option (List Property) → List (List Property) → List (List Property)
completed None tables = tables
completed (Some table) tables = cond (is_eligible table) (table ∷ []) []

-- what an entry of the opened book is sure to leave there, whoever comes back or doesn't
abbrev pub opened_table : Option Record → List (List Property)
opened_table None = []
opened_table (Some entry) = lasting (entry.table ∷ [])

-- The tables of which one stands under this ID; where there are none nothing is said. It is the table of the last save that was
-- completed: its client was told SaveComplete, or to die in a shutdown. From each later save that the client has told with success,
-- its table may stand too, until the next save is complete, also where that save was cancelled. What is kept so ends as the client has
-- told a success with a table that the rules let into no book, as somebody orders to forget the ID while nobody is registered under it,
-- and as the client is gone, unless the hint of each table lets it stay without its client. A save that fails ends nothing.
abbrev pub kept_in : Book → List ℕ → List Note → List (List Property)
kept_in opened id [] = opened_table (entry_of id opened)
kept_in opened id (Heard c (SaveYourselfDone true) ∷ notes) =
    cond (has_that_id id (id_in c notes) && was_asked c notes) (or_table (table_in opened c notes) (kept_in opened id notes)) (kept_in opened id notes)
kept_in opened id (Given c SaveComplete ∷ notes) = cond (has_that_id id (id_in c notes)) (completed (snapshot_in opened c notes) (kept_in opened id notes)) (kept_in opened id notes)
kept_in opened id (Given c Die ∷ notes) =
    cond (has_that_id id (id_in c notes) && is_to_save c notes) (completed (snapshot_in opened c notes) (kept_in opened id notes)) (kept_in opened id notes)
kept_in opened id (Gone c ∷ notes) = cond (has_that_id id (id_in c notes)) (lasting (kept_in opened id notes)) (kept_in opened id notes)
kept_in opened id (Ordered (Forget other) ∷ notes) = cond (bytes_eq id other && not (is_held id notes)) [] (kept_in opened id notes)
kept_in opened id (note ∷ notes) = kept_in opened id notes

-- Laws

-- the book has an entry of this ID with one of these tables
pub record Stands (book : Book) (id : List ℕ) (tables : List (List Property)) : Type 0 where
  pub table : List Property
  pub one : Contains tables table
  pub entry : Contains book.entries (record { id = id; table = table })

-- what is kept under an ID stands in the book
abbrev pub SavesAreKept : Type 0
SavesAreKept =
    (book : Book) (seen : List Entry) (id : List ℕ) → IsOpenable book → IsSeen book seen → kept_in book id (notes seen) ≢ []
    → Stands (book_in book (notes seen)) id (kept_in book id (notes seen))

-- As a client is told that its save is complete, and it was a success, the book that stands has its entry: its ID and the table that
-- it had as it said so. Only a table that the rules let into a book can be kept: it names a RestartCommand, and its hint isn't Never.
abbrev pub CompletedSavesStand : Type 0
CompletedSavesStand =
    (book : Book) (seen : List Entry) (c : ℕ) (id : List ℕ) (table : List Property) → IsOpenable book → IsSeen book (seen ++ Did (Say c SaveComplete) ∷ [])
    → id_in c (notes seen) ≡ Some id → snapshot_in book c (notes seen) ≡ Some table → is_eligible table ≡ true
    → Contains (book_in book (notes seen)).entries (record { id = id; table = table })
