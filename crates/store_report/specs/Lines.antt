-- What is found in a store, line by line.
use Rattle.std.specs.Prelude.{ℕ, Bool, true, false, if◌then◌else◌, List, [], ◌∷◌, ◌++◌, length, codes, Option, Some, None, option_and_then}
use Rattle.std.specs.List.{flat_map}
use Rattle.std.specs.Fmt.{decimal}
use Rattle.owned_lists.specs.declared.commands.Command.{Command}
use Rattle.ice_values.specs.declared.property.Property.{Property}
use Rattle.xsmp_properties.specs.Readers.{command_of, hint_of, values_of}
use Rattle.xsmp_properties.specs.declared.hints.Hint.{Hint}
use Rattle.xsmp_properties.specs.declared.hints.Hint.TheVariants.{IfRunning, Anyway, Immediately, Never}
use Rattle.checkpoint_records.specs.declared.records.Book.{Book}
use Rattle.checkpoint_records.specs.declared.records.Entry.{Entry}
use Rattle.checkpoint_records.specs.declared.records.Named.{Named}
use Rattle.restart_plan.specs.Restarts.{opening_restarts}
use Rattle.shown_text.specs.Shown.{words_text}
use Rattle.store_report.specs.Refusals.{refusal_lines}
use Rattle.store_report.specs.declared.refusals.Refusal.{Refusal}
use Rattle.store_report.specs.declared.finding.Finding.{Finding}
use Rattle.store_report.specs.declared.finding.Finding.TheVariants.{Opens, Damaged, WrongSize}

abbrev pub hint_text : Hint → List ℕ
hint_text IfRunning = codes "IfRunning"
hint_text Anyway = codes "Anyway"
hint_text Immediately = codes "Immediately"
hint_text Never = codes "Never"

-- the program as which a client shows itself: one value of kind ARRAY8
abbrev pub program_in : List (List ℕ) → Option (List ℕ)
program_in [] = None
program_in (program ∷ []) = Some program
program_in (program ∷ value ∷ values) = None

abbrev pub program_of : List Property → Option (List ℕ)
program_of table = option_and_then program_in (values_of (codes "Program") (codes "ARRAY8") table)

-- what stands behind a name, and a newline (10)
abbrev pub named_line : List ℕ → List (List ℕ) → List ℕ
named_line name words = name ++ (words_text words ++ 10 ∷ [])

abbrev pub program_line : Option (List ℕ) → List ℕ
program_line None = []
program_line (Some program) = named_line (codes "  program") (program ∷ [])

abbrev pub command_line : List ℕ → Option Command → List ℕ
command_line name None = []
command_line name (Some command) = named_line name command.words

abbrev pub entry_lines : Entry → List ℕ
entry_lines entry =
    named_line (codes "entry") (entry.id ∷ []) ++ (program_line (program_of entry.table) ++ (named_line (codes "  hint") (hint_text (hint_of entry.table) ∷ [])
    ++ (command_line (codes "  restart") (command_of (codes "RestartCommand") entry.table) ++ command_line (codes "  discard") (command_of (codes "DiscardCommand") entry.table))))

-- how much there is, and how many programs a login starts
unfoldable pub counts_line : Book → List ℕ
counts_line book =
    codes "store opens: epoch " ++ decimal book.epoch ++ codes ", entries " ++ decimal (length book.entries) ++ codes ", starts " ++ decimal (length (opening_restarts book.entries)) ++ codes ", pending " ++ decimal (length book.pending) ++ 10 ∷ []

-- another session than the chosen one
abbrev pub other_lines : Named → List ℕ
other_lines session = named_line (codes "session") (session.name ∷ []) ++ flat_map entry_lines session.entries

abbrev pub book_lines : Book → List ℕ
book_lines book =
    counts_line book ++ (flat_map entry_lines book.entries ++ (flat_map other_lines book.others ++ flat_map (λ command. named_line (codes "pending") command.words) book.pending))

-- a damage and another size have the lines of a session that doesn't start
abbrev pub finding_lines : Finding → List ℕ
finding_lines (Opens book) = book_lines book
finding_lines (Damaged at) = codes "smd: store damaged at " ++ (decimal at ++ 10 ∷ [])
finding_lines (WrongSize size) = codes "smd: store has size " ++ (decimal size ++ 10 ∷ [])

-- a store that a manager has is told as such
abbrev pub living_line : Bool → List ℕ
living_line living = if living then codes "store in use: a copy of a living store\n" else []

-- what a session over the store is answered comes first, and then what stands in it; a store that opens and is refused has both
abbrev pub report_lines : Bool → Option Refusal → Finding → List ℕ
report_lines living refused finding = living_line living ++ (refusal_lines refused ++ finding_lines finding)

-- as a session that doesn't start
abbrev pub status_of : Finding → ℕ
status_of (Opens book) = 0
status_of (Damaged at) = 2
status_of (WrongSize size) = 3
