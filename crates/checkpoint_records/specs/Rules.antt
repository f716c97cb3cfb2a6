-- The rules of a book. The store takes no book that breaks one, and the session makes none.
use Rattle.std.specs.Prelude.{◌≡◌, ℕ, ◌≤◌, ◌<◌, ◌^◌, Bool, true, false, ◌&&◌, nat_lt, List, [], ◌∷◌, ◌++◌, length, map, codes}
use Rattle.std.specs.List.{AllByRecursion, IsDistinct, list_all, list_any}
use Rattle.std.specs.Str.{bytes_eq}
use Rattle.byteorder.specs.Endian.{big_bytes}
use Rattle.hex.specs.Hex.{encode_lower}
use Rattle.owned_lists.specs.declared.commands.Command.{Command}
use Rattle.ice_values.specs.Cells.{Cells}
use Rattle.ice_values.specs.Properties.{array8, array8_list}
use Rattle.ice_values.specs.declared.numbers.Endian.{Endian}
use Rattle.ice_values.specs.declared.numbers.Endian.TheVariants.{Lsb}
use Rattle.ice_values.specs.declared.property.Property.{Property}
use Rattle.xsmp_properties.specs.Tables.{IsTableFull, AreNamesDistinct}
use Rattle.xsmp_properties.specs.Readers.{is_text, is_environment, are_words}
use Rattle.checkpoint_records.specs.Books.{same_command, names, sessions, names_of, all_entries, is_before}
use Rattle.checkpoint_records.specs.declared.records.Entry.{Entry}
use Rattle.checkpoint_records.specs.declared.records.Named.{Named}
use Rattle.checkpoint_records.specs.declared.records.Book.{Book}

-- IDs

-- a number in eight lower-case hex digits
abbrev pub hex8 : ℕ → List ℕ
hex8 n = encode_lower (big_bytes 4 n)

-- the ID with this number of the run of this epoch
abbrev pub client_id : ℕ → ℕ → List ℕ
client_id epoch number = codes "smd-" ++ hex8 epoch ++ codes "-" ++ hex8 number

-- an ID of a run up to the latest
pub record IsClientId (latest : ℕ) (id : List ℕ) : Type 0 where
  pub epoch : ℕ
  pub number : ℕ
  pub first : 1 ≤ epoch
  pub last : epoch ≤ latest
  pub fits : number < 2 ^ 32
  pub is : id ≡ client_id epoch number

-- Tables

-- what a client may say of itself
pub record IsTable (table : List Property) : Type 0 where
  pub limits : ¬ (IsTableFull table)
  pub names : AreNamesDistinct table

-- what is kept of a client
pub record IsEntry (latest : ℕ) (entry : Entry) : Type 0 where
  pub id : IsClientId latest entry.id
  pub table : IsTable entry.table

-- Pending commands

-- names and values in turn
abbrev pub in_turn : List (List ℕ × List ℕ) → List (List ℕ)
in_turn [] = []
in_turn (pair ∷ pairs) = pair.0 ∷ pair.1 ∷ in_turn pairs

-- how a command is spelled
abbrev pub command_cells : Endian → Command → Cells
command_cells e command = array8_list e command.words ++ array8 e command.directory ++ array8_list e (in_turn command.environment)

-- a command as a table gives one
pub record IsCommand (command : Command) : Type 0 where
  pub words : are_words command.words ≡ true
  pub directory : is_text command.directory ≡ true
  pub environment : is_environment (in_turn command.environment) ≡ true
  pub size : length (command_cells Lsb command) ≤ 16384

-- Sessions

-- from `!` to `~`
abbrev pub is_visible : ℕ → Bool
is_visible byte = nat_lt 32 byte && nat_lt byte 127

-- what a session may be called
pub record IsName (name : List ℕ) : Type 0 where
  pub some : 1 ≤ length name
  pub few : length name ≤ 64
  pub visible : list_all is_visible name ≡ true

-- A session is stored under its name, where it has an entry.
pub record IsStored (session : Named) : Type 0 where
  pub called : IsName session.name
  pub some : 1 ≤ length session.entries

-- each name comes before all later ones
abbrev pub AreRising : List (List ℕ) → Type 0
AreRising [] = Unit {0}
AreRising (name ∷ names) = AllByRecursion (λ later. is_before name later ≡ true) names × AreRising names

-- The book

abbrev pub ids_of : List Entry → List (List ℕ)
ids_of entries = map (λ entry. entry.id) entries

-- The rules of entries and of pending commands speak of all sessions together.
pub record KeepsRules (book : Book) : Type 0 where
  pub few_entries : length (all_entries book) ≤ 128
  pub few_pending : length book.pending ≤ 320
  pub entries : AllByRecursion (IsEntry book.epoch) (all_entries book)
  pub commands : AllByRecursion IsCommand book.pending
  -- no two entries have the same ID
  pub ids_differ : IsDistinct bytes_eq (ids_of (all_entries book))
  -- no two pending commands are the same, and none is one that the book names
  pub commands_differ : IsDistinct same_command book.pending
  pub none_named : AllByRecursion (λ command. names book command ≡ false) book.pending
  -- the chosen session is none of the others, which have entries and stand in the order of their names
  pub called : IsName book.name
  pub stored : AllByRecursion IsStored book.others
  pub rising : AreRising (names_of book.others)
  pub apart : list_any (λ other. bytes_eq book.name other.name) book.others ≡ false
  pub few_sessions : length (sessions book) ≤ 8
