-- What the parts of a book owe one another, and what a change owes the book that it is made to, so that the parts do afterwards.
use Rattle.std.specs.Prelude.{◌≡◌, ◌⊎◌, ℕ, ◌-◌, ◌≤◌, Bool, ◌&&◌, true, false, List, [], ◌∷◌, ◌++◌, length, codes, if◌then◌else◌}
use Rattle.std.specs.List.{AllByRecursion, IsDistinct, list_any, slice_get}
use Rattle.std.specs.Option.{option_map_or}
use Rattle.std.specs.Str.{bytes_eq}
use Rattle.std.specs.Cmp.Lexicographic.{pointwise}
use Rattle.owned_lists.specs.declared.commands.Command.{Command}
use Rattle.ice_values.specs.declared.property.Property.{Property}
use Rattle.xsmp_properties.specs.Readers.{are_words, command_of}
use Rattle.checkpoint_records.specs.Books.{all_entries, names, same_command}
use Rattle.checkpoint_records.specs.Rules.{IsClientId, IsName}
use Rattle.checkpoint_records.specs.declared.records.Book.{Book}
use Rattle.checkpoint_records.specs.declared.records.Entry.{Entry}
use Rattle.checkpoint_changes.specs.declared.changes.Change.{Change}
use Rattle.checkpoint_changes.specs.declared.changes.Change.TheVariants.{Epoch, Pend, Put, Remove, Unpend}

-- each ID is one of a run up to this epoch
abbrev pub AreOfRuns : ℕ → List Entry → Type 0
AreOfRuns epoch entries = AllByRecursion (λ (e : Entry). IsClientId epoch e.id) entries

-- The parts of a book fit together: each ID is of a run up to the book's epoch, no two pending commands are the same, and no entry names one.
pub record FitTogether (book : Book) : Type 0 where
  pub runs : AreOfRuns book.epoch (all_entries book)
  pub commands_differ : IsDistinct same_command book.pending
  pub none_named : AllByRecursion (λ command. names book command ≡ false) book.pending

-- the last byte of the last text, or 0 where there is none
abbrev pub last_byte : List (List ℕ) → ℕ
last_byte texts = option_map_or (λ text. option_map_or (λ byte. byte) (slice_get text (length text - 1)) 0) (slice_get texts (length texts - 1)) 0

-- a property holds the words of a command
abbrev pub has_words : Property → Command → Bool
has_words property command = pointwise bytes_eq command.words property.values && (bytes_eq (codes "LISTofARRAY8") property.kind && are_words property.values)

-- an entry's DiscardCommand is the same as this command
abbrev pub discards_by : Command → Entry → Bool
discards_by command entry = option_map_or (same_command command) (command_of (codes "DiscardCommand") entry.table) false

-- one of these commands is the same as an entry's DiscardCommand
abbrev pub discards_any : List Command → Entry → Bool
discards_any commands entry = list_any (λ command. discards_by command entry) commands

-- an entry has one of these IDs, which are in doubt
abbrev pub is_doubted : List (List ℕ) → Entry → Bool
is_doubted doubts entry = list_any (λ id. bytes_eq id entry.id) doubts

-- The parts of a book fit together, but that entries which are in doubt may name pending commands.
pub record FitBut (doubts : List (List ℕ)) (book : Book) : Type 0 where
  pub runs : AreOfRuns book.epoch (all_entries book)
  pub commands_differ : IsDistinct same_command book.pending
  pub free : AllByRecursion (λ (e : Entry). (is_doubted doubts e ≡ true) ⊎ (discards_any book.pending e ≡ false)) (all_entries book)

-- an entry that is put while it names a pending command comes into doubt
abbrev pub doubts_after : Book → Change → List (List ℕ) → List (List ℕ)
doubts_after book (Epoch epoch) doubts = doubts
doubts_after book (Remove id) doubts = doubts
doubts_after book (Put name entry) doubts = if discards_any book.pending entry then doubts ++ entry.id ∷ [] else doubts
doubts_after book (Unpend place) doubts = doubts
doubts_after book (Pend command) doubts = doubts

-- an entry in doubt names a command
abbrev pub collides : List (List ℕ) → List Command → Entry → Bool
collides doubts commands entry = is_doubted doubts entry && discards_any commands entry

-- a change fits the parts of a book, where an entry may come into doubt
abbrev pub FitsIn : Book → Change → Type 0
FitsIn book (Epoch epoch) = (book.epoch ≤ epoch) ⊎ AreOfRuns epoch (all_entries book)
FitsIn book (Remove id) = Unit {0}
FitsIn book (Put name entry) = IsClientId book.epoch entry.id
FitsIn book (Unpend place) = Unit {0}
FitsIn book (Pend command) = (list_any (λ other. same_command other command) book.pending ≡ false) × (list_any (discards_by command) (all_entries book) ≡ false)

-- an entry is put into a session that may be called so
abbrev pub PutsIntoName : Change → Type 0
PutsIntoName (Epoch epoch) = Unit {0}
PutsIntoName (Remove id) = Unit {0}
PutsIntoName (Put name entry) = IsName name
PutsIntoName (Unpend place) = Unit {0}
PutsIntoName (Pend command) = Unit {0}
