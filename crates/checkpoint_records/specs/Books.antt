-- What is kept of sessions between their logins: for each session a record of each of its clients, the commands that are yet to be run,
-- and a number that each run of the manager raises. A run works on one session, which is chosen by its name.
use Rattle.std.specs.Prelude.{ℕ, Bool, List, [], ◌∷◌, ◌++◌, codes, filter_map, flat_map, map, if◌then◌else◌}
use Rattle.std.specs.List.{list_any}
use Rattle.std.specs.Str.{bytes_eq}
use Rattle.std.specs.Ordering.{is_lt, nat_cmp}
use Rattle.std.specs.Cmp.Lexicographic.{pointwise, slice_cmp}
use Rattle.owned_lists.specs.declared.commands.Command.{Command}
use Rattle.xsmp_properties.specs.Readers.{command_of}
use Rattle.checkpoint_records.specs.declared.records.Entry.{Entry}
use Rattle.checkpoint_records.specs.declared.records.Named.{Named}
use Rattle.checkpoint_records.specs.declared.records.Book.{Book}

-- Sessions

-- the name of the session where none is said
unfoldable pub default_name : List ℕ
default_name = codes "default"

-- a name comes before another where it is less, byte by byte
abbrev pub is_before : List ℕ → List ℕ → Bool
is_before a b = is_lt (slice_cmp nat_cmp a b)

-- the sessions with one more, in its place by their names
abbrev pub with_session : Named → List Named → List Named
with_session session [] = session ∷ []
with_session session (other ∷ others) = if is_before session.name other.name then session ∷ other ∷ others else other ∷ with_session session others

-- the same, where a session without entries is none
abbrev pub stored : List ℕ → List Entry → List Named → List Named
stored name [] others = others
stored name (entry ∷ entries) others = with_session (record { name = name; entries = entry ∷ entries }) others

-- all sessions of a book, which are those that have entries, in the order of their names
abbrev pub sessions : Book → List Named
sessions book = stored book.name book.entries book.others

-- the entries of the session of this name, none where there is no such session,
abbrev pub entries_of : List ℕ → List Named → List Entry
entries_of name [] = []
entries_of name (session ∷ others) = if bytes_eq name session.name then session.entries else entries_of name others

-- and the other sessions
abbrev pub others_than : List ℕ → List Named → List Named
others_than name [] = []
others_than name (session ∷ others) = if bytes_eq name session.name then others else session ∷ others_than name others

-- the book of these sessions in which the one of this name is chosen
abbrev pub chosen_from : List ℕ → List Named → List Command → ℕ → Book
chosen_from name all pending epoch = record { entries = entries_of name all; pending = pending; epoch = epoch; name = name; others = others_than name all }

-- the same sessions, pending commands and epoch, where the session of this name is chosen
abbrev pub choose : List ℕ → Book → Book
choose name book = chosen_from name (sessions book) book.pending book.epoch

-- Books

abbrev pub empty_book : Book
empty_book = record { entries = []; pending = []; epoch = 0; name = default_name; others = [] }

abbrev pub names_of : List Named → List (List ℕ)
names_of all = map (λ session. session.name) all

abbrev pub entries_in : List Named → List Entry
entries_in all = flat_map (λ session. session.entries) all

-- the entries of the chosen session, and then those of the others
abbrev pub all_entries : Book → List Entry
all_entries book = book.entries ++ entries_in book.others

-- two commands are the same where their words are equal
abbrev pub same_command : Command → Command → Bool
same_command a b = pointwise bytes_eq a.words b.words

-- the DiscardCommands of the entries, in order
abbrev pub discards : List Entry → List Command
discards entries = filter_map (λ entry. command_of (codes "DiscardCommand") entry.table) entries

-- a book names the DiscardCommands of its entries and of the entries of its other sessions
abbrev pub names : Book → Command → Bool
names book command = list_any (same_command command) (discards (all_entries book))
