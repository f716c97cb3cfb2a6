-- What a client says of itself, and which of its DiscardCommands stop standing by that.
use Rattle.std.specs.Prelude.{Bool, List, None, Option, Some, [], cond, false, find, is_some, length, nat_lt, ℕ, ◌||◌}
use Rattle.std.specs.List.{list_any}
use Rattle.std.specs.Str.{bytes_eq}
use Rattle.owned_lists.specs.declared.commands.Command.{Command}
use Rattle.ice_values.specs.declared.property.Property.{Property}
use Rattle.xsmp_properties.specs.Tables.{encoded_len, set_all, without_names}
use Rattle.checkpoint_records.specs.Books.{all_entries, same_command}
use Rattle.checkpoint_records.specs.declared.records.Entry.{Entry}
use Rattle.checkpoint_records.specs.declared.records.Book.{Book}
use Rattle.xsmp_messages.specs.declared.message.XsmpMessage.{XsmpMessage}
use Rattle.xsmp_messages.specs.declared.message.XsmpMessage.TheVariants.{DeleteProperties, SetProperties}
use Rattle.session_model.specs.declared.phase.Phase.{Phase}
use Rattle.discard_ledger.specs.Discards.{discard_of, with_stray}
use Rattle.session_model.specs.Phases.{is_bound}

-- more than a client may say
abbrev pub is_full : List Property → Bool
is_full table = nat_lt 128 (length table) || nat_lt 16384 (encoded_len table)

-- all properties of a list are set, or none
abbrev pub set_table : List Property → List Property → List Property
set_table list table = cond (is_full (set_all table list)) table (set_all table list)

-- The table of c after c said this. A client sets and deletes properties from its registration until it is told to die.
abbrev pub table_said : ℕ → XsmpMessage → (ℕ → Option Phase) → List Property → List Property
table_said c (SetProperties list) phase table = cond (is_bound (phase c)) (set_table list table) table
table_said c (DeleteProperties names) phase table = cond (is_bound (phase c)) (without_names names table) table
table_said c m phase table = table

-- Discards

abbrev pub is_same : Command → Option Command → Bool
is_same command None = false
is_same command (Some other) = same_command command other

-- a command that stood, and stands no longer where this one stands now
abbrev pub stopped : Option Command → Option Command → Option Command
stopped None now = None
stopped (Some command) now = cond (is_same command now) None (Some command)

-- the DiscardCommand of c that stops standing as c says this
abbrev pub stopped_said : ℕ → XsmpMessage → (ℕ → Option Phase) → (ℕ → List Property) → Option Command
stopped_said c (SetProperties list) phase table = stopped (discard_of (table c)) (discard_of (table_said c (SetProperties list) phase (table c)))
stopped_said c (DeleteProperties names) phase table = stopped (discard_of (table c)) (discard_of (table_said c (DeleteProperties names) phase (table c)))
stopped_said c m phase table = None

-- the strays after a command stopped standing, or none did
abbrev pub strays_with : Book → Option Command → List Command → List Command
strays_with book None strays = strays
strays_with book (Some command) strays = with_stray book book.pending strays command

-- Entries of a book

abbrev pub has_id : List ℕ → List (List ℕ) → Bool
has_id id ids = list_any (bytes_eq id) ids

abbrev pub is_of : List ℕ → Entry → Bool
is_of id entry = bytes_eq id entry.id

-- the entry of the chosen session under an ID
abbrev pub entry_of : List ℕ → Book → Option Entry
entry_of id book = find (is_of id) book.entries

abbrev pub is_recorded : List ℕ → Book → Bool
is_recorded id book = is_some (entry_of id book)

-- the book has the ID, in whichever session
abbrev pub is_kept_id : List ℕ → Book → Bool
is_kept_id id book = is_some (find (is_of id) (all_entries book))

abbrev pub table_in : Option Entry → List Property
table_in None = []
table_in (Some entry) = entry.table

-- the table with which a client of this ID begins: what the book has under the ID, and nothing where it has no such entry
abbrev pub first_table : Book → List ℕ → List Property
first_table book id = table_in (entry_of id book)
