-- The programs of a login, each with its priority: lower is earlier.
use Rattle.std.specs.Prelude.{ℕ, Bool, min, List, [], ◌∷◌, Option, codes, filter, filter_map, option_map}
use Rattle.std.specs.List.{list_any}
use Rattle.owned_lists.specs.declared.commands.Command.{Command}
use Rattle.checkpoint_records.specs.Books.{same_command}
use Rattle.checkpoint_records.specs.declared.records.Entry.{Entry}
use Rattle.xsmp_properties.specs.Readers.{command_of}
use Rattle.start_waves.specs.Priorities.{priority_of}
use Rattle.start_waves.specs.declared.ranks.Ranked.{Ranked}

-- the RestartCommand of an entry with the priority of its client
abbrev pub rank_of : Entry → Option Ranked
rank_of entry = option_map (λ command. record { command = command; priority = priority_of entry.table }) (command_of (codes "RestartCommand") entry.table)

-- those of the entries that have one, in their order
abbrev pub ranks_of : List Entry → List Ranked
ranks_of entries = filter_map rank_of entries

-- the lowest priority of programs
abbrev pub lowest : List Ranked → ℕ
lowest [] = 255
lowest (it ∷ programs) = min it.priority (lowest programs)

abbrev pub has_command : Command → Ranked → Bool
has_command command it = same_command command it.command

abbrev pub is_ranked : Command → List Ranked → Bool
is_ranked command ranks = list_any (has_command command) ranks

-- a command's priority is the lowest of the programs that have it
abbrev pub priority_of_command : Command → List Ranked → ℕ
priority_of_command command ranks = lowest (filter (has_command command) ranks)
