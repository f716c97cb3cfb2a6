-- How books are spelled: four numbers, and then the parts of the book, all with the least significant byte first and with zeros for unused
-- bytes and padding. There are two formats. In the first a book has one session, `default`, and its entries are counted in front; in the
-- second it has several, and each has a head of its own, with its name and the count of its entries.
use Rattle.std.specs.Prelude.{◌≡◌, ℕ, ◌<◌, ◌^◌, List, [], ◌∷◌, ◌++◌, length, map, flat_map}
use Rattle.owned_lists.specs.declared.commands.Command.{Command}
use Rattle.ice_values.specs.Cells.{Cells, zeros, free}
use Rattle.ice_values.specs.Numbers.{card32}
use Rattle.ice_values.specs.Properties.{array8, property_list}
use Rattle.ice_values.specs.declared.numbers.Endian.TheVariants.{Lsb}
use Rattle.checkpoint_records.specs.Books.{default_name, entries_in, sessions}
use Rattle.checkpoint_records.specs.Rules.{command_cells, KeepsRules}
use Rattle.checkpoint_records.specs.declared.head.Format.{Format}
use Rattle.checkpoint_records.specs.declared.head.Format.TheVariants.{Single, Several}
use Rattle.checkpoint_records.specs.declared.head.Head.{Head}
use Rattle.checkpoint_records.specs.declared.session_heads.SessionHead.{SessionHead}
use Rattle.checkpoint_records.specs.declared.records.Entry.{Entry}
use Rattle.checkpoint_records.specs.declared.records.Named.{Named}
use Rattle.checkpoint_records.specs.declared.records.Book.{Book}

-- The head

abbrev pub format_number : Format → ℕ
format_number Single = 1
format_number Several = 2

-- the format, the epoch, how many sessions there are (entries, in the first format), and how many pending commands
abbrev pub head_cells : Head → Cells
head_cells head = card32 Lsb (format_number head.format) ++ card32 Lsb head.epoch ++ card32 Lsb head.count ++ card32 Lsb head.pending

-- The parts

-- in front of the entries of a session: its name, how many they are, and four unused bytes
abbrev pub session_head_cells : SessionHead → Cells
session_head_cells head = array8 Lsb head.name ++ card32 Lsb head.count ++ free 4

abbrev pub entry_cells : Entry → Cells
entry_cells entry = array8 Lsb entry.id ++ property_list Lsb entry.table

pub data Part : Type 0 where
  -- a session begins
  Begins : SessionHead → Part
  -- it has this entry
  Holds : Entry → Part
  -- a command is pending
  Pends : Command → Part

abbrev pub part_cells : Part → Cells
part_cells (Begins head) = session_head_cells head
part_cells (Holds entry) = entry_cells entry
part_cells (Pends command) = command_cells Lsb command

abbrev pub head_of_session : Named → SessionHead
head_of_session session = record { name = session.name; count = length session.entries }

-- the parts of a session
abbrev pub session_parts : Format → Named → List Part
session_parts Single session = map Holds session.entries
session_parts Several session = Begins (head_of_session session) ∷ map Holds session.entries

-- the parts of a book: its sessions, and then its pending commands
abbrev pub parts_in : Format → List Named → List Command → List Part
parts_in format all pending = flat_map (session_parts format) all ++ map Pends pending

-- how many of what is counted in front there are
abbrev pub count_in : Format → List Named → ℕ
count_in Single all = length (entries_in all)
count_in Several all = length all

-- The book

abbrev pub head_of : Format → Book → Head
head_of format book = record { format = format; epoch = book.epoch; count = count_in format (sessions book); pending = length book.pending }

abbrev pub parts_of : Format → Book → List Part
parts_of format book = parts_in format (sessions book) book.pending

-- a book in the bytes of a format
abbrev pub bytes_in : Format → Book → List ℕ
bytes_in format book = zeros (head_cells (head_of format book) ++ flat_map part_cells (parts_of format book))

-- the bytes of a book
abbrev pub book_bytes : Book → List ℕ
book_bytes book = bytes_in Several book

-- the first format has no place for another session
abbrev pub Allows : Format → Book → Type 0
Allows Single book = book.others ≡ []
Allows Several book = Unit {0}

-- In this format the bytes spell a book that keeps the rules. In a book that is spelled the session `default` is chosen.
pub record Spells (format : Format) (bytes : List ℕ) (book : Book) : Type 0 where
  pub rules : KeepsRules book
  pub epoch : book.epoch < 2 ^ 32
  pub chosen : book.name ≡ default_name
  pub allowed : Allows format book
  pub is : bytes ≡ bytes_in format book
