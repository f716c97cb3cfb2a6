-- The line of an event that a script can say says that event.
use Rattle.std.proofs.Common.{ℕ, List, refl}
use Rattle.hex.proofs.HexLemmas.{decode_of-ok, decode_of-encode_lower}
use Rattle.hex.specs.Hex.{encode_lower}
use Rattle.sm_world.specs.declared.events.Event.{Event}
use Rattle.sm_world.specs.declared.events.Event.TheVariants.{Joined, Piece, Gone, Operator, Tick, End}
use Rattle.control_lines.specs.Laws.{IsSayable, SaysAgain}
use Rattle.control_lines.specs.Orders.{order_text}
use Rattle.control_lines.specs.Script.{Says}
use Rattle.control_lines.specs.Traces.{event_text}
use Rattle.control_lines.specs.Fields.{bytes_text}

pub sayable_event : (line : List ℕ) (event : Event) → Says line event → IsSayable event
sayable_event line (Joined n) says = says.1
sayable_event line (Piece n bytes) (fields, begins, says) =
    (says.said.number, (says.said.hex.some, says.within), (decode_of-ok says.said.text bytes says.said.hex.spells).3)
sayable_event line (Gone n) says = says.1
sayable_event line (Operator order) (rest, begins, says) = says.1
sayable_event line (Tick milliseconds) says = says.1
sayable_event line End says = says

says_its_event : (event : Event) → IsSayable event → Says (event_text event) event
says_its_event (Joined n) small = (refl, small)
says_its_event (Piece n bytes) (small, sized, are_bytes) = (
  bytes_text n bytes,
  refl,
  record {
    said = record {
      text = encode_lower bytes;
      fields_are = refl;
      number = small;
      hex = record { spells = decode_of-encode_lower bytes are_bytes; some = sized.0 };
    };
    within = sized.1;
  },
)
says_its_event (Gone n) small = (refl, small)
says_its_event (Operator order) is_order = (order_text order, refl, (refl, is_order))
says_its_event (Tick milliseconds) small = (refl, small)
says_its_event End none = none

pub says_again : SaysAgain
says_again = record { sayable = sayable_event; again = says_its_event }
