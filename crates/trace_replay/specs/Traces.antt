-- A whole trace, and where a text is none.
use Rattle.std.specs.Prelude.{◌≡◌, ◌⊎◌, ℕ, ◌+◌, ◌<◌, ◌≤◌, List, [], ◌∷◌, ◌++◌, length}
use Rattle.std.specs.List.{AllByRecursion, flat_map}
use Rattle.control_lines.specs.Lines.{lines_of}
use Rattle.sm_world.specs.Events.{HasPieceSize}
use Rattle.sm_world.specs.declared.events.Event.{Event}
use Rattle.sm_world.specs.declared.events.Event.TheVariants.{End as AtEnd}
use Rattle.trace_replay.specs.Grammar.{SayLines}
use Rattle.trace_replay.specs.Openings.{HasRoom, Open, behind_opening, line_of_book}
use Rattle.trace_replay.specs.declared.lines.TraceLine.{TraceLine}
use Rattle.trace_replay.specs.declared.lines.TraceLine.TheVariants.{Heard, End, Sent, Shut, Started, Printed}
use Rattle.trace_replay.specs.declared.opening.Opening.{Opening}
use Rattle.trace_replay.specs.declared.reading.LineReading.{LineReading}
use Rattle.trace_replay.specs.declared.reading.LineReading.TheVariants.{Whole as WholeLines, Malformed as NoLines}
use Rattle.trace_replay.specs.declared.reading.Reading.{Reading}
use Rattle.trace_replay.specs.declared.reading.Reading.TheVariants.{Whole, Malformed}

-- The lines open with these, and each line behind them says the meaning in its place.
pub record IsTrace (lines : List (List ℕ)) (opening : Opening) (said : List TraceLine) : Type 0 where
  pub opens : Open lines opening
  pub say : SayLines (behind_opening opening lines) said

-- no opening and no meanings make these lines a trace
abbrev pub IsNone : List (List ℕ) → Type 0
IsNone lines = (opening : Opening) (said : List TraceLine) → ¬ (IsTrace lines opening said)

-- The book that a text opens with has no room for the session of the trace, which a later line may name. The line of the book, the n-th,
-- is wrong then.
pub record IsCrowded (text : List ℕ) (n : ℕ) : Type 0 where
  pub opening : Opening
  pub opens : Open (lines_of text) opening
  pub full : ¬ (HasRoom opening)
  pub number : n ≡ line_of_book opening

-- The n-th line, counted from 1, is the first that isn't of the grammar: those before it are a trace, and with it they are none. Or it is
-- the last of a text that is too long.
pub record IsFirstBad (limit : ℕ) (text : List ℕ) (n : ℕ) : Type 0 where
  pub good : List (List ℕ)
  pub line : List ℕ
  pub others : List (List ℕ)
  pub lines : lines_of text ≡ good ++ line ∷ others
  pub number : n ≡ length good + 1
  pub opening : Opening
  pub said : List TraceLine
  pub all_good : IsTrace good opening said
  pub bad : IsNone (good ++ line ∷ []) ⊎ ((limit < length text) × (others ≡ []))

-- The n-th line is wrong: that of a book without room, whatever else is wrong; and else the first that isn't of the grammar.
abbrev pub IsMalformed : ℕ → List ℕ → ℕ → Type 0
IsMalformed limit text n = IsCrowded text n ⊎ (((opening : Opening) → Open (lines_of text) opening → HasRoom opening) × IsFirstBad limit text n)

-- A text of at most so many bytes is a trace that says this, whose book has room for its session.
pub record SaysTrace (limit : ℕ) (text : List ℕ) (opening : Opening) (said : List TraceLine) : Type 0 where
  pub within : length text ≤ limit
  pub all : IsTrace (lines_of text) opening said
  pub room : HasRoom opening

-- what the lines of a text are read as, which may have so many bytes
abbrev pub ReadsLines : ℕ → List ℕ → LineReading → Type 0
ReadsLines limit text (WholeLines opening said) = SaysTrace limit text opening said
ReadsLines limit text (NoLines at) = IsMalformed limit text at

-- the events among the lines, of which `end` is one
abbrev pub event_in : TraceLine → List Event
event_in (Heard event) = event ∷ []
event_in End = AtEnd ∷ []
event_in (Sent n bytes) = []
event_in (Shut n) = []
event_in (Started succeeded text) = []
event_in (Printed text) = []

abbrev pub events_in : List TraceLine → List Event
events_in said = flat_map event_in said

-- what a text is read as, which may have so many bytes
abbrev pub ReadsAs : ℕ → List ℕ → Reading → Type 0
ReadsAs limit text (Whole opening events) = (said : List TraceLine) × SaysTrace limit text opening said × (events ≡ events_in said)
ReadsAs limit text (Malformed at) = IsMalformed limit text at

-- the events of a trace have the sizes that events have
abbrev pub AreSized : Reading → Type 0
AreSized (Whole opening events) = AllByRecursion HasPieceSize events
AreSized (Malformed at) = Unit {0}
