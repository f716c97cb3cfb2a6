-- The sessions of a store, a line each.
use Rattle.std.specs.Prelude.{ℕ, Bool, List, [], ◌∷◌, ◌++◌, length, codes, get_or, map}
use Rattle.std.specs.List.{flat_map}
use Rattle.std.specs.Fmt.{decimal}
use Rattle.owned_lists.specs.declared.commands.Command.{Command}
use Rattle.checkpoint_records.specs.Books.{sessions}
use Rattle.checkpoint_records.specs.declared.records.Entry.{Entry}
use Rattle.checkpoint_records.specs.declared.records.Named.{Named}
use Rattle.restart_plan.specs.Restarts.{opening_restarts}
use Rattle.store_report.specs.Lines.{finding_lines, living_line, named_line}
use Rattle.store_report.specs.declared.finding.Finding.{Finding}
use Rattle.store_report.specs.declared.finding.Finding.TheVariants.{Opens, Damaged, WrongSize}

-- the program that a command starts
abbrev pub program_started : Command → List ℕ
program_started command = get_or command.words 0 []

-- the programs that a login starts over these entries
abbrev pub programs_started : List Entry → List (List ℕ)
programs_started entries = map program_started (opening_restarts entries)

-- the name of a session, how many entries it has, and the programs that its login starts
abbrev pub session_words : Named → List (List ℕ)
session_words session = session.name ∷ codes "entries" ∷ decimal (length session.entries) ∷ codes "starts" ∷ programs_started session.entries

abbrev pub session_line : Named → List ℕ
session_line session = named_line (codes "session") (session_words session)

-- a damage and another size have the lines of a session that doesn't start
abbrev pub sessions_found : Finding → List ℕ
sessions_found (Opens book) = flat_map session_line (sessions book)
sessions_found (Damaged at) = finding_lines (Damaged at)
sessions_found (WrongSize size) = finding_lines (WrongSize size)

abbrev pub sessions_lines : Bool → Finding → List ℕ
sessions_lines living finding = living_line living ++ sessions_found finding
