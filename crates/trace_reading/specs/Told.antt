-- What is told of a trace.
use Rattle.std.specs.Prelude.{ℕ, ◌+◌, ◌-◌, ◌^◌, List, [], ◌∷◌, ◌++◌, codes, Option, None, min}
use Rattle.control_lines.specs.Orders.{order_text}
use Rattle.ice_framing.specs.Parts.{parts_of, new_parts}
use Rattle.sm_world.specs.declared.events.Event.{Event}
use Rattle.sm_world.specs.declared.events.Event.TheVariants.{Joined, Piece, Gone, Operator, Tick, End as AtEnd}
use Rattle.message_text.specs.Words.{quoted}
use Rattle.trace_replay.specs.Shown.{Streams, silence, after_line}
use Rattle.trace_replay.specs.declared.lines.TraceLine.{TraceLine}
use Rattle.trace_replay.specs.declared.lines.TraceLine.TheVariants.{Heard, End, Sent, Shut, Started, Printed}
use Rattle.trace_replay.specs.declared.opening.Opening.{Opening}
use Rattle.trace_reading.specs.Lines.{came_told, deed_told, line_at, opening_told, started_told, went_told}
use Rattle.trace_reading.specs.Programs.{after_parts}

-- Where a trace stands: what came on each connection so far and was sent, and the milliseconds that went by.
pub record Scene : Type 0 where
  pub streams : Streams
  pub clock : ℕ

abbrev pub first_scene : Scene
first_scene = record { streams = silence; clock = 0 }

-- the program by which a connection is known
abbrev pub known_on : Scene → ℕ → Option (List ℕ)
known_on scene n = after_parts None (parts_of (scene.streams.came n))

-- The clock counts as far as 64 bits do.
abbrev pub clock_behind : ℕ → TraceLine → ℕ
clock_behind clock (Heard (Tick milliseconds)) = min (clock + milliseconds) (2 ^ 64 - 1)
clock_behind clock other = clock

abbrev pub scene_behind : Scene → TraceLine → Scene
scene_behind scene said = record { streams = after_line scene.streams said; clock = clock_behind scene.clock said }

-- A tick has no line: it moves the clock.
abbrev pub event_told : Scene → Event → List ℕ
event_told scene (Joined n) = deed_told scene.clock [] n None (codes " joins")
event_told scene (Piece n bytes) = came_told scene.clock n (known_on scene n) (new_parts (scene.streams.came n) bytes)
event_told scene (Gone n) = deed_told scene.clock [] n (known_on scene n) (codes " is gone")
event_told scene (Operator order) = line_at scene.clock (codes "the operator says " ++ order_text order)
event_told scene (Tick milliseconds) = []
event_told scene AtEnd = []

-- what is told of a line
abbrev pub line_told : Scene → TraceLine → List ℕ
line_told scene (Heard event) = event_told scene event
line_told scene End = line_at scene.clock (codes "the end")
line_told scene (Sent n bytes) = went_told scene.clock n (known_on scene n) (new_parts (scene.streams.went n) bytes)
line_told scene (Shut n) = deed_told scene.clock (codes "smd shuts ") n (known_on scene n) []
line_told scene (Started succeeded text) = started_told scene.clock succeeded text
line_told scene (Printed text) = line_at scene.clock (codes "smd prints " ++ quoted text)

-- what is told of lines from a scene on
abbrev pub told_from : Scene → List TraceLine → List ℕ
told_from scene [] = []
told_from scene (said ∷ others) = line_told scene said ++ told_from (scene_behind scene said) others

-- what is told of a trace
abbrev pub told : Opening → List TraceLine → List ℕ
told opening said = opening_told opening ++ told_from first_scene said
