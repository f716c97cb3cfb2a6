-- Which clients are started again. A client tells how by its property RestartCommand, and when by
-- its property RestartStyleHint.
use Rattle.std.specs.Prelude.{ℕ, Bool, true, false, ◌&&◌, if◌then◌else◌, nat_lt, List, Option, None, codes, filter_map}
use Rattle.owned_lists.specs.declared.commands.Command.{Command}
use Rattle.ice_values.specs.declared.property.Property.{Property}
use Rattle.xsmp_properties.specs.declared.hints.Hint.{Hint}
use Rattle.xsmp_properties.specs.declared.hints.Hint.TheVariants.{IfRunning, Anyway, Immediately, Never}
use Rattle.xsmp_properties.specs.Readers.{command_of, hint_of}
use Rattle.checkpoint_records.specs.declared.records.Entry.{Entry}

abbrev pub restart_of : List Property → Option Command
restart_of table = command_of (codes "RestartCommand") table

abbrev pub is_never : Hint → Bool
is_never IfRunning = false
is_never Anyway = false
is_never Immediately = false
is_never Never = true

abbrev pub is_immediately : Hint → Bool
is_immediately IfRunning = false
is_immediately Anyway = false
is_immediately Immediately = true
is_immediately Never = false

-- what is started for an entry when the book is opened: its RestartCommand, unless its hint is Never
abbrev pub opening_restart : Entry → Option Command
opening_restart entry = if is_never (hint_of entry.table) then None else restart_of entry.table

-- what is started when the book is opened, in its order
abbrev pub opening_restarts : List Entry → List Command
opening_restarts entries = filter_map opening_restart entries

-- what is started as the client of an entry departs, where that was done so often before: the
-- RestartCommand, where the hint is Immediately, five times at most
abbrev pub respawn : Entry → ℕ → Option Command
respawn entry count = if is_immediately (hint_of entry.table) && nat_lt count 5 then restart_of entry.table else None
