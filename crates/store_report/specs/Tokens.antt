-- What is found in a store, as JSON: an object of the epoch, the entries and the pending commands, or of the damage or the size.
use Rattle.std.specs.Prelude.{ℕ, Bool, true, false, if◌then◌else◌, List, [], ◌∷◌, ◌++◌, length, codes, map, Option, Some, None}
use Rattle.std.specs.List.{flat_map}
use Rattle.std.specs.Fmt.{decimal}
use Rattle.json.specs.Token.{Token, begin_object, end_object, begin_array, end_array, key, string, number, boolean, null}
use Rattle.owned_lists.specs.declared.commands.Command.{Command}
use Rattle.ice_values.specs.declared.property.Property.{Property}
use Rattle.shown_text.specs.Shown.{is_whole}
use Rattle.xsmp_properties.specs.Readers.{command_of, hint_of}
use Rattle.checkpoint_records.specs.declared.records.Book.{Book}
use Rattle.checkpoint_records.specs.declared.records.Entry.{Entry}
use Rattle.checkpoint_records.specs.declared.records.Named.{Named}
use Rattle.restart_plan.specs.Restarts.{opening_restarts}
use Rattle.store_report.specs.Lines.{hint_text, program_of}
use Rattle.store_report.specs.declared.finding.Finding.{Finding}
use Rattle.store_report.specs.declared.finding.Finding.TheVariants.{Opens, Damaged, WrongSize}

-- an array of items
unfoldable pub listed : {A : Type 0} → (A → List Token) → List A → List Token
listed item items = begin_array ∷ (flat_map item items ++ end_array ∷ [])

abbrev pub byte_number : ℕ → List Token
byte_number b = number (decimal b) ∷ []

-- bytes are a string where they are a text with nothing hidden in it, and else the array of their numbers
unfoldable pub bytes_tokens : List ℕ → List Token
bytes_tokens bytes = if is_whole bytes then string bytes ∷ [] else listed byte_number bytes

abbrev pub pair_tokens : List ℕ × List ℕ → List Token
pair_tokens pair = begin_array ∷ (bytes_tokens pair.0 ++ (bytes_tokens pair.1 ++ end_array ∷ []))

-- what is started, and where
abbrev pub call_tokens : Command → List Token
call_tokens command = key (codes "words") ∷ (listed bytes_tokens command.words ++ (key (codes "directory") ∷ bytes_tokens command.directory))

unfoldable pub command_tokens : Command → List Token
command_tokens command = begin_object ∷ (call_tokens command ++ (key (codes "environment") ∷ (listed pair_tokens command.environment ++ end_object ∷ [])))

unfoldable pub if_any : {A : Type 0} → (A → List Token) → Option A → List Token
if_any item None = null ∷ []
if_any item (Some x) = item x

unfoldable pub property_tokens : Property → List Token
property_tokens property =
    begin_object ∷ key (codes "name") ∷ (bytes_tokens property.name ++ (key (codes "kind") ∷ (bytes_tokens property.kind
    ++ (key (codes "values") ∷ (listed bytes_tokens property.values ++ end_object ∷ [])))))

abbrev pub names_tokens : Entry → List Token
names_tokens entry = key (codes "id") ∷ (bytes_tokens entry.id ++ (key (codes "program") ∷ if_any bytes_tokens (program_of entry.table)))

-- when and by what its program is started again
abbrev pub start_tokens : Entry → List Token
start_tokens entry =
    key (codes "hint") ∷ string (hint_text (hint_of entry.table)) ∷ key (codes "restart") ∷ if_any command_tokens (command_of (codes "RestartCommand") entry.table)

unfoldable pub entry_tokens : Entry → List Token
entry_tokens entry =
    begin_object ∷ (names_tokens entry ++ (start_tokens entry ++ (key (codes "properties") ∷ (listed property_tokens entry.table ++ end_object ∷ []))))

-- another session than the chosen one
unfoldable pub other_tokens : Named → List Token
other_tokens session =
    begin_object ∷ key (codes "name") ∷ (bytes_tokens session.name ++ (key (codes "entries") ∷ (listed entry_tokens session.entries ++ end_object ∷ [])))

abbrev pub book_tokens : Book → List Token
book_tokens book =
    key (codes "epoch") ∷ number (decimal book.epoch) ∷ key (codes "starts") ∷ number (decimal (length (opening_restarts book.entries)))
    ∷ key (codes "entries") ∷ (listed entry_tokens book.entries ++ (key (codes "others") ∷ (listed other_tokens book.others ++ (key (codes "pending") ∷ listed command_tokens book.pending))))

abbrev pub finding_tokens : Finding → List Token
finding_tokens (Opens book) = book_tokens book
finding_tokens (Damaged at) = key (codes "damaged") ∷ number (decimal at) ∷ []
finding_tokens (WrongSize size) = key (codes "size") ∷ number (decimal size) ∷ []

abbrev pub report_tokens : Bool → Finding → List Token
report_tokens living finding = begin_object ∷ key (codes "living") ∷ boolean living ∷ (finding_tokens finding ++ end_object ∷ [])
