-- The tables that the code keeps of the streams, against the streams.
use Rattle.std.specs.Prelude.{◌≡◌, ℕ, ◌<◌, ◌^◌, false, List, [], ◌++◌, length, Option, Some, None}
use Rattle.std.specs.Ordering.{nat_cmp}
use Rattle.std.specs.BTreeMap.{get as row_in}
use Rattle.sm_world.specs.declared.events.Event.{Event}
use Rattle.sm_world.specs.declared.events.Event.TheVariants.{Joined, Piece, Gone, Operator, Tick, End as AtEnd}
use Rattle.trace_replay.specs.Flows.{Brings, IsReadTo}
use Rattle.trace_replay.specs.Shown.{Streams, replaced, line_shown, after_line}
use Rattle.trace_replay.specs.declared.flows.Brought.{Brought}
use Rattle.trace_replay.specs.declared.flows.Progress.{Progress}
use Rattle.trace_replay.specs.declared.lines.TraceLine.{TraceLine}
use Rattle.trace_replay.specs.declared.lines.TraceLine.TheVariants.{Heard, End, Sent, Shut, Started, Printed}
use Rattle.trace_replay.specs.declared.watch.Table.{Table}
use Rattle.trace_replay.specs.declared.watch.Watch.{Watch}

-- how far a stream was read; nothing is kept before its first byte
abbrev pub IsRead : List ℕ → Option Progress → Type 0
IsRead stream None = stream ≡ []
IsRead stream (Some progress) = IsReadTo stream progress

-- the table says how far these streams were read
abbrev pub Reads : (ℕ → List ℕ) → Table → Type 0
Reads streams table = (q : ℕ) → IsRead (streams q) (row_in nat_cmp table.rows q)

-- A piece was taken behind the stream of its connection.
pub record BroughtPiece (streams : ℕ → List ℕ) (n : ℕ) (piece : List ℕ) (after : Table) (brought : Brought) : Type 0 where
  pub reads : Reads (replaced streams n (streams n ++ piece)) after
  pub brings : Brings (streams n) piece brought

-- the same of all streams that the table shows
abbrev pub BringsPiece : ℕ → List ℕ → Table → Table → Brought → Type 0
BringsPiece n piece before after brought = (streams : ℕ → List ℕ) → Reads streams before → BroughtPiece streams n piece after brought

-- the two tables say how far the streams of both directions were read
pub record Shows (streams : Streams) (watch : Watch) : Type 0 where
  pub came : Reads streams.came watch.came
  pub went : Reads streams.went watch.went

-- what an event brings, and what a line brings: parts only where it has bytes
abbrev pub EventBrings : Streams → Event → Brought → Type 0
EventBrings streams (Joined n) brought = Unit {0}
EventBrings streams (Piece n bytes) brought = Brings (streams.came n) bytes brought
EventBrings streams (Gone n) brought = Unit {0}
EventBrings streams (Operator order) brought = Unit {0}
EventBrings streams (Tick milliseconds) brought = Unit {0}
EventBrings streams AtEnd brought = Unit {0}

abbrev pub LineBrings : Streams → TraceLine → Brought → Type 0
LineBrings streams (Heard event) brought = EventBrings streams event brought
LineBrings streams End brought = Unit {0}
LineBrings streams (Sent n bytes) brought = Brings (streams.went n) bytes brought
LineBrings streams (Shut n) brought = Unit {0}
LineBrings streams (Started succeeded text) brought = Unit {0}
LineBrings streams (Printed text) brought = Unit {0}

-- What a line says was taken.
pub record BroughtLine (streams : Streams) (said : TraceLine) (after : Watch) (brought : Brought) : Type 0 where
  pub shows : Shows (after_line streams said) after
  pub brings : LineBrings streams said brought

-- the same of all streams that the tables show
abbrev pub BringsLine : TraceLine → Watch → Watch → Brought → Type 0
BringsLine said before after brought = (streams : Streams) → Shows streams before → BroughtLine streams said after brought

-- no stream has so many bytes that its frames couldn't be counted
pub record AreCountable (streams : Streams) : Type 0 where
  pub came : (q : ℕ) → length (streams.came q) < 2 ^ 64
  pub went : (q : ℕ) → length (streams.went q) < 2 ^ 64

-- what is shown of a line that brought this was added
abbrev pub PutsLine : TraceLine → Brought → List ℕ → List ℕ → Type 0
PutsLine said brought old new = (streams : Streams) → LineBrings streams said brought → AreCountable (after_line streams said) → new ≡ old ++ line_shown streams said

-- what a line says was shown
pub record Follows (streams : Streams) (said : TraceLine) (after : Watch) (old new : List ℕ) : Type 0 where
  pub shows : Shows (after_line streams said) after
  pub lines : new ≡ old ++ line_shown streams said

-- the same of all streams that the tables show
abbrev pub FollowsLine : TraceLine → Watch → Watch → List ℕ → List ℕ → Type 0
FollowsLine said before after old new = (streams : Streams) → Shows streams before → AreCountable (after_line streams said) → Follows streams said after old new
