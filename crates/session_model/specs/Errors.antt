-- A message of a client that arrived, and the Errors that answer one (ICE, chapter 7: Error).
use Rattle.std.specs.Prelude.{List, [], drop, length, replicate, take, ℕ, ◌++◌}
use Rattle.byteorder.specs.Endian.{little_bytes}
use Rattle.ice_values.specs.Cells.{pad_len}
use Rattle.ice_values.specs.Fields.{ErrorFields}
use Rattle.ice_values.specs.Classes.{class_number}
use Rattle.ice_values.specs.declared.class.ErrorClass.TheVariants.{BadState, BadValue}
use Rattle.ice_values.specs.declared.severity.Severity.{Severity}
use Rattle.ice_values.specs.declared.severity.Severity.TheVariants.{CanContinue, FatalToProtocol}
use Rattle.xsmp_messages.specs.Messages.{minor_of}
use Rattle.session_model.specs.declared.events.Arrival.{Arrival}

-- where a value stands in its message, how long it is, and the value itself, in whole units
abbrev pub value_at : ℕ → List ℕ → List ℕ
value_at at bytes = little_bytes 4 at ++ little_bytes 4 (length bytes) ++ bytes ++ replicate (pad_len (length bytes) 8) 0

-- a message that has no place here
abbrev pub bad_state : Arrival → ErrorFields
bad_state x = record { class = class_number BadState; minor = minor_of x.message; severity = CanContinue; sequence = x.sequence; values = [] }

-- a value that isn't acceptable: these bytes, at a place of the message
abbrev pub bad_value : Severity → Arrival → ℕ → List ℕ → ErrorFields
bad_value severity x at bytes = record { class = class_number BadValue; minor = minor_of x.message; severity = severity; sequence = x.sequence; values = value_at at bytes }

-- an ID that the sender can't have: the string as it came, but at most 65,520 bytes of it
abbrev pub bad_id : Arrival → ErrorFields
bad_id x = bad_value CanContinue x 8 (take 65520 (drop 8 x.frame))

-- no room for one more ID
abbrev pub no_room : Arrival → ErrorFields
no_room x = bad_value FatalToProtocol x 8 (take 8 (drop 8 x.frame))

-- more properties than a table has room for: their count as it came
abbrev pub full_table : Arrival → ErrorFields
full_table x = bad_value CanContinue x 8 (take 4 (drop 8 x.frame))

-- a shutdown of one client alone: the byte that says so
abbrev pub lone_shutdown : Arrival → ErrorFields
lone_shutdown x = bad_value CanContinue x 12 (take 1 (drop 12 x.frame))
