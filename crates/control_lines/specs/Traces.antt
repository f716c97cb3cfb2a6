-- The line of each effect, and the text of a list of effects.
use Rattle.std.specs.Prelude.{ℕ, Bool, true, false, List, [], ◌∷◌, ◌++◌, codes, Option, Some, None}
use Rattle.std.specs.List.{flat_map}
use Rattle.std.specs.Fmt.{decimal}
use Rattle.std.specs.Io.BufRead.{strip_last}
use Rattle.owned_lists.specs.declared.commands.Command.{Command}
use Rattle.sm_world.specs.declared.effects.Effect.{Effect}
use Rattle.sm_world.specs.declared.effects.Effect.TheVariants.{Heard, Sent, Shut, Started, Wrote, Torn, Synced, SyncFailed, Published, Printed}
use Rattle.sm_world.specs.declared.events.Event.{Event}
use Rattle.sm_world.specs.declared.events.Event.TheVariants.{Joined, Piece, Gone, Operator, Tick, End}
use Rattle.control_lines.specs.Fields.{bytes_text, hex_text}
use Rattle.control_lines.specs.Orders.{order_text}

abbrev pub event_text : Event → List ℕ
event_text (Joined n) = codes "join " ++ decimal n
event_text (Piece n bytes) = codes "piece " ++ bytes_text n bytes
event_text (Gone n) = codes "gone " ++ decimal n
event_text (Operator order) = codes "order " ++ order_text order
event_text (Tick milliseconds) = codes "tick " ++ decimal milliseconds
event_text End = codes "end"

-- a field of a command, behind its space
abbrev pub field_text : List ℕ → List ℕ
field_text bytes = codes " " ++ hex_text bytes

-- the directory, where one is set
abbrev pub directory_text : List ℕ → List ℕ
directory_text [] = []
directory_text (b ∷ bytes) = codes " @" ++ field_text (b ∷ bytes)

-- a name and its value
abbrev pub pair_text : List ℕ × List ℕ → List ℕ
pair_text pair = codes " +" ++ (field_text pair.0 ++ field_text pair.1)

-- a command's words, its directory, and its names and values
abbrev pub command_text : Command → List ℕ
command_text command = flat_map field_text command.words ++ (directory_text command.directory ++ flat_map pair_text command.environment)

-- whether it could be started
abbrev pub started_text : Bool → Command → List ℕ
started_text true command = codes "started" ++ command_text command
started_text false command = codes "unstarted" ++ command_text command

-- The line of an effect, without its newline. What is done to the disk has none, and a published file neither.
abbrev pub effect_text : Effect → Option (List ℕ)
effect_text (Heard event) = Some (event_text event)
effect_text (Sent n bytes) = Some (codes "sent " ++ bytes_text n bytes)
effect_text (Shut n) = Some (codes "shut " ++ decimal n)
effect_text (Started command succeeded) = Some (started_text succeeded command)
effect_text (Wrote at bytes) = None
effect_text (Torn at length) = None
effect_text Synced = None
effect_text SyncFailed = None
effect_text (Published path bytes) = None
effect_text (Printed text) = Some (codes "printed " ++ strip_last 10 text)

-- a line with its newline (10)
abbrev pub whole_line : Option (List ℕ) → List ℕ
whole_line None = []
whole_line (Some line) = line ++ (10 ∷ [])

-- the text of some effects, line by line
abbrev pub effects_text : List Effect → List ℕ
effects_text effects = flat_map (λ effect. whole_line (effect_text effect)) effects
