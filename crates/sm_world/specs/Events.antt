-- What comes from outside.
use Rattle.std.specs.Prelude.{◌≤◌, List, [], ◌∷◌, length}
use Rattle.sm_world.specs.declared.events.Event.{Event}
use Rattle.sm_world.specs.declared.events.Event.TheVariants.{Joined, Piece, Gone, Operator, Tick, End}

-- the first of the events to come, and End where there is none
abbrev pub next_of : List Event → Event
next_of [] = End
next_of (event ∷ events) = event

-- A piece has at least one byte and at most 65,536.
abbrev pub HasPieceSize : Event → Type 0
HasPieceSize (Piece conn bytes) = (1 ≤ length bytes) × (length bytes ≤ 65536)
HasPieceSize (Joined conn) = Unit {0}
HasPieceSize (Gone conn) = Unit {0}
HasPieceSize (Operator order) = Unit {0}
HasPieceSize (Tick milliseconds) = Unit {0}
HasPieceSize End = Unit {0}
