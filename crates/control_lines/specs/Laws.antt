-- What holds of every line: it has one meaning at most, and the line of an event says that event.
use Rattle.std.specs.Prelude.{◌≡◌, ℕ, ◌<◌, ◌^◌, List}
use Rattle.hex.specs.Hex.{IsBytes}
use Rattle.sm_world.specs.Events.{HasPieceSize}
use Rattle.sm_world.specs.declared.events.Event.{Event}
use Rattle.sm_world.specs.declared.events.Event.TheVariants.{Joined, Piece, Gone, Operator, Tick, End}
use Rattle.control_lines.specs.Orders.{IsOrder}
use Rattle.control_lines.specs.Script.{Says}
use Rattle.control_lines.specs.Traces.{event_text}

-- at most one value is meant
abbrev pub MeansOne : {Meaning : Type 0} → (Meaning → Type 0) → Type 0
MeansOne {Meaning} Means = (one other : Meaning) → Means one → Means other → one ≡ other

-- an event that a line can say: a piece has 1 to 65,536 bytes
abbrev pub IsSayable : Event → Type 0
IsSayable (Joined n) = n < 2 ^ 32
IsSayable (Piece n bytes) = (n < 2 ^ 32) × HasPieceSize (Piece n bytes) × IsBytes bytes
IsSayable (Gone n) = n < 2 ^ 32
IsSayable (Operator order) = IsOrder order
IsSayable (Tick milliseconds) = milliseconds < 2 ^ 64
IsSayable End = ⊥

-- What a line says can be said, and its own line says it too.
pub record SaysAgain : Type 0 where
  pub sayable : (line : List ℕ) (event : Event) → Says line event → IsSayable event
  pub again : (event : Event) → IsSayable event → Says (event_text event) event
