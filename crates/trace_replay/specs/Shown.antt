-- What is shown of a trace.
use Rattle.std.specs.Prelude.{ℕ, ◌+◌, List, [], ◌∷◌, ◌++◌, length, codes, nat_eq, if◌then◌else◌}
use Rattle.std.specs.Fmt.{decimal}
use Rattle.sm_world.specs.declared.events.Event.{Event}
use Rattle.sm_world.specs.declared.events.Event.TheVariants.{Joined, Piece, Gone, Operator, Tick, End as AtEnd}
use Rattle.ice_framing.specs.Parts.{Part, Whole, TooMuch, parts_of, new_parts}
use Rattle.message_text.specs.declared.words.Writing.TheVariants.{Codes}
use Rattle.trace_replay.specs.Frames.{frame_text}
use Rattle.trace_replay.specs.declared.parts.Direction.{Direction}
use Rattle.trace_replay.specs.declared.parts.Direction.TheVariants.{In, Out}
use Rattle.trace_replay.specs.declared.lines.TraceLine.{TraceLine}
use Rattle.trace_replay.specs.declared.lines.TraceLine.TheVariants.{Heard, End, Sent, Shut, Started, Printed}

abbrev pub part_text : Part → List ℕ
part_text (Whole frame) = frame_text Codes frame
part_text (TooMuch header) = codes "Oversize"

abbrev pub direction_text : Direction → List ℕ
direction_text In = codes "in "
direction_text Out = codes "out "

-- the line of a text: its direction, the connection, and its number
abbrev pub shown_line : Direction → ℕ → ℕ → List ℕ → List ℕ
shown_line direction n sequence text = direction_text direction ++ (decimal n ++ (32 ∷ (decimal sequence ++ (32 ∷ (text ++ (10 ∷ []))))))

-- the lines of some parts, of which so many came before
abbrev pub shown_parts : Direction → ℕ → ℕ → List Part → List ℕ
shown_parts direction n before [] = []
shown_parts direction n before (part ∷ parts) = shown_line direction n (before + 1) (part_text part) ++ shown_parts direction n (before + 1) parts

-- the lines of the parts that a piece of a stream brings
abbrev pub shown_piece : Direction → ℕ → List ℕ → List ℕ → List ℕ
shown_piece direction n stream piece = shown_parts direction n (length (parts_of stream)) (new_parts stream piece)

-- All that came so far on each connection since it joined last, in the one direction and in the other.
pub record Streams : Type 0 where
  pub came : ℕ → List ℕ
  pub went : ℕ → List ℕ

-- before the first line
abbrev pub silence : Streams
silence = record { came = λ q. []; went = λ q. [] }

-- the streams of one direction, where that of a connection is now another
abbrev pub replaced : (ℕ → List ℕ) → ℕ → List ℕ → ℕ → List ℕ
replaced streams n stream q = if nat_eq q n then stream else streams q

-- after an event: a join begins both streams of its connection anew
abbrev pub after_event : Streams → Event → Streams
after_event streams (Joined n) = record { came = replaced streams.came n []; went = replaced streams.went n [] }
after_event streams (Piece n bytes) = record streams { came = replaced streams.came n (streams.came n ++ bytes) }
after_event streams (Gone n) = streams
after_event streams (Operator order) = streams
after_event streams (Tick milliseconds) = streams
after_event streams AtEnd = streams

-- after a line
abbrev pub after_line : Streams → TraceLine → Streams
after_line streams (Heard event) = after_event streams event
after_line streams End = streams
after_line streams (Sent n bytes) = record streams { went = replaced streams.went n (streams.went n ++ bytes) }
after_line streams (Shut n) = streams
after_line streams (Started succeeded text) = streams
after_line streams (Printed text) = streams

abbrev pub event_shown : Streams → Event → List ℕ
event_shown streams (Joined n) = []
event_shown streams (Piece n bytes) = shown_piece In n (streams.came n) bytes
event_shown streams (Gone n) = []
event_shown streams (Operator order) = []
event_shown streams (Tick milliseconds) = []
event_shown streams AtEnd = []

-- what is shown of a line
abbrev pub line_shown : Streams → TraceLine → List ℕ
line_shown streams (Heard event) = event_shown streams event
line_shown streams End = []
line_shown streams (Sent n bytes) = shown_piece Out n (streams.went n) bytes
line_shown streams (Shut n) = []
line_shown streams (Started succeeded text) = []
line_shown streams (Printed text) = []

-- what is shown of lines that come behind these streams
abbrev pub shown_from : Streams → List TraceLine → List ℕ
shown_from streams [] = []
shown_from streams (said ∷ others) = line_shown streams said ++ shown_from (after_line streams said) others

-- what is shown of a trace's lines
abbrev pub shown : List TraceLine → List ℕ
shown lines = shown_from silence lines
