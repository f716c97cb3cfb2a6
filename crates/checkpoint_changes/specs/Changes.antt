-- Changes of a book: how each is spelled, which there are, and what each does to a book.
use Rattle.std.specs.Prelude.{◌≡◌, ℕ, zero, suc, ◌<◌, ◌≤◌, ◌^◌, Bool, List, [], ◌∷◌, ◌++◌, length, find, Option, None, Some, option_map, option_and_then, if◌then◌else◌}
use Rattle.std.specs.List.{list_any}
use Rattle.std.specs.Str.{bytes_eq}
use Rattle.ice_values.specs.Cells.{Cells}
use Rattle.ice_values.specs.Numbers.{card32}
use Rattle.ice_values.specs.Properties.{array8, IsArray8}
use Rattle.ice_values.specs.declared.numbers.Endian.TheVariants.{Lsb}
use Rattle.checkpoint_records.specs.Books.{chosen_from, default_name, entries_in, entries_of, others_than, sessions, stored}
use Rattle.checkpoint_records.specs.Rules.{IsCommand, IsEntry, IsName, command_cells}
use Rattle.checkpoint_records.specs.Spelling.{entry_cells}
use Rattle.checkpoint_records.specs.declared.head.Format.{Format}
use Rattle.checkpoint_records.specs.declared.head.Format.TheVariants.{Single, Several}
use Rattle.checkpoint_records.specs.declared.records.Book.{Book}
use Rattle.checkpoint_records.specs.declared.records.Entry.{Entry}
use Rattle.checkpoint_records.specs.declared.records.Named.{Named}
use Rattle.checkpoint_changes.specs.declared.changes.Change.{Change}
use Rattle.checkpoint_changes.specs.declared.changes.Change.TheVariants.{Epoch, Pend, Put, Remove, Unpend}

-- The bytes

-- An entry is put with the name of its session where the book has several.
abbrev pub put_code : Format → ℕ
put_code Single = 3
put_code Several = 6

abbrev pub put_cells : Format → List ℕ → Entry → Cells
put_cells Single name entry = entry_cells entry
put_cells Several name entry = array8 Lsb name ++ entry_cells entry

-- a change is spelled by its code,
abbrev pub code_of : Format → Change → ℕ
code_of format (Epoch epoch) = 1
code_of format (Remove id) = 2
code_of format (Put name entry) = put_code format
code_of format (Unpend place) = 4
code_of format (Pend command) = 5

-- a number, which is 0 where the change has none,
abbrev pub number_of : Change → ℕ
number_of (Epoch epoch) = epoch
number_of (Remove id) = 0
number_of (Put name entry) = 0
number_of (Unpend place) = place
number_of (Pend command) = 0

-- and the part of a book that it brings, or the ID that it takes out
abbrev pub part_cells : Format → Change → Cells
part_cells format (Epoch epoch) = []
part_cells format (Remove id) = array8 Lsb id
part_cells format (Put name entry) = put_cells format name entry
part_cells format (Unpend place) = []
part_cells format (Pend command) = command_cells Lsb command

abbrev pub change_cells : Format → Change → Cells
change_cells format change = card32 Lsb (code_of format change) ++ card32 Lsb (number_of change) ++ part_cells format change

-- the session into which an entry is put has a name; in the first format it is `default`
abbrev pub MayBePut : Format → List ℕ → Type 0
MayBePut Single name = name ≡ default_name
MayBePut Several name = IsName name

-- What a change may hold: what could stand in some book. The spelling of an ID has at most 65,536 bytes.
abbrev pub IsChange : Format → Change → Type 0
IsChange format (Epoch epoch) = epoch < 2 ^ 32
IsChange format (Remove id) = IsArray8 id × (length (array8 Lsb id) ≤ 65536)
IsChange format (Put name entry) = MayBePut format name × IsEntry 4294967295 entry
IsChange format (Unpend place) = place < 2 ^ 32
IsChange format (Pend command) = IsCommand command

-- What a change does

-- the entries but for the one with this ID; None where there is none
abbrev pub without : List ℕ → List Entry → Option (List Entry)
without id [] = None
without id (e ∷ entries) = if bytes_eq e.id id then Some entries else option_map (λ rest. e ∷ rest) (without id entries)

-- an entry takes the place of the one with its ID; where there is none it goes last
abbrev pub with_entry : Entry → List Entry → List Entry
with_entry entry [] = entry ∷ []
with_entry entry (e ∷ entries) = if bytes_eq e.id entry.id then entry ∷ entries else e ∷ with_entry entry entries

-- the items but for the one at this place, counted from 0; None where there is none
abbrev pub without_at : {A : Type 0} → ℕ → List A → Option (List A)
without_at n [] = None
without_at zero (x ∷ items) = Some items
without_at (suc n) (x ∷ items) = option_map (λ rest. x ∷ rest) (without_at n items)

abbrev pub has_entry : List ℕ → List Entry → Bool
has_entry id entries = list_any (λ e. bytes_eq e.id id) entries

-- the name of the session that has an entry with this ID
abbrev pub session_with : List ℕ → List Named → Option (List ℕ)
session_with id all = option_map (λ session. session.name) (find (λ session. has_entry id session.entries) all)

-- the sessions where the one of this name has these entries; one without entries is gone
abbrev pub with_entries_at : List ℕ → List Entry → List Named → List Named
with_entries_at name entries all = stored name entries (others_than name all)

-- the sessions without the entry of this ID; None where none has it
abbrev pub sessions_without : List ℕ → List Named → Option (List Named)
sessions_without id all = option_and_then (λ name. option_map (λ entries. with_entries_at name entries all) (without id (entries_of name all))) (session_with id all)

-- The sessions where this one has an entry, which takes the place of the one with its ID, or goes last; the session is made where there is
-- none. None where another session has the ID.
abbrev pub sessions_with : List ℕ → Entry → List Named → Option (List Named)
sessions_with name entry all =
    if has_entry entry.id (entries_in (others_than name all)) then None else Some (with_entries_at name (with_entry entry (entries_of name all)) all)

-- the book with these sessions
abbrev pub with_sessions : Book → List Named → Book
with_sessions book all = chosen_from book.name all book.pending book.epoch

-- the book after a change; None where it takes out what isn't there, or leaves no book
abbrev pub applied : Book → Change → Option Book
applied book (Epoch epoch) = Some (record book { epoch = epoch })
applied book (Remove id) = option_map (with_sessions book) (sessions_without id (sessions book))
applied book (Put name entry) = option_map (with_sessions book) (sessions_with name entry (sessions book))
applied book (Unpend place) = option_map (λ pending. record book { pending = pending }) (without_at place book.pending)
applied book (Pend command) = Some (record book { pending = book.pending ++ command ∷ [] })

-- the book after changes, one after the other
abbrev pub apply : Book → List Change → Option Book
apply book [] = Some book
apply book (change ∷ delta) = option_and_then (λ next. apply next delta) (applied book change)
