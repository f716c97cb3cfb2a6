-- The commands that discard a state which no client needs any more. A client tells how its state is
-- discarded by its property DiscardCommand. While a book names that command, the state is needed.
use Rattle.std.specs.Prelude.{Bool, not, ◌&&◌, ◌||◌, if◌then◌else◌, nat_lt, List, [], ◌∷◌, ◌++◌, length, filter, Option, codes}
use Rattle.std.specs.List.{list_any}
use Rattle.owned_lists.specs.declared.commands.Command.{Command}
use Rattle.ice_values.specs.declared.property.Property.{Property}
use Rattle.xsmp_properties.specs.Readers.{command_of}
use Rattle.checkpoint_records.specs.declared.records.Entry.{Entry}
use Rattle.checkpoint_records.specs.declared.records.Book.{Book}
use Rattle.checkpoint_records.specs.Books.{same_command, discards, names}

-- the commands that are yet to be run, and those that stopped standing in a client's table since the last book
pub record Account : Type 0 where
  pub pending : List Command
  pub strays : List Command

abbrev pub discard_of : List Property → Option Command
discard_of table = command_of (codes "DiscardCommand") table

-- the same command is in the list
abbrev pub is_among : Command → List Command → Bool
is_among command commands = list_any (same_command command) commands

abbrev pub without_commands : List Command → List Command → List Command
without_commands gone commands = filter (λ command. not (is_among command gone)) commands

-- a command goes last, unless the same one is there already
abbrev pub with_command : List Command → Command → List Command
with_command commands command = if is_among command commands then commands else commands ++ command ∷ []

-- each command of a list in turn
abbrev pub with_commands : List Command → List Command → List Command
with_commands commands [] = commands
with_commands commands (command ∷ list) = with_commands (with_command commands command) list

abbrev pub each_once : List Command → List Command
each_once commands = with_commands [] commands

-- What is pending after a new book: what was, then what the old entries told, then the strays, each
-- once and without what the new entries tell.
abbrev pub next_pending : List Command → List Entry → List Command → List Entry → List Command
next_pending pending old strays new = each_once (without_commands (discards new) (pending ++ discards old ++ strays))

-- nobody else keeps this command in mind: the book doesn't name it, and it is neither pending nor a stray
abbrev pub is_stray : Book → List Command → List Command → Command → Bool
is_stray book pending strays command = not (names book command || is_among command pending || is_among command strays)

-- the strays after a command stopped standing in a client's table; there are 128 at most
abbrev pub with_stray : Book → List Command → List Command → Command → List Command
with_stray book pending strays command = if nat_lt (length strays) 128 && is_stray book pending strays command then strays ++ command ∷ [] else strays

-- the pending commands that stand in none of the tables which these commands were taken from
abbrev pub issuable : List Command → List Command → List Command
issuable live pending = without_commands live pending
