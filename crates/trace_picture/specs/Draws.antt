-- What drawing a trace answers. Of the picture itself nothing is said.
use Rattle.std.specs.Prelude.{ℕ, List}
use Rattle.trace_replay.specs.Traces.{IsMalformed, SaysTrace}
use Rattle.trace_replay.specs.declared.lines.TraceLine.{TraceLine}
use Rattle.trace_replay.specs.declared.opening.Opening.{Opening}
use Rattle.trace_replay.specs.declared.showing.ShowAnswer.{ShowAnswer}
use Rattle.trace_replay.specs.declared.showing.ShowAnswer.TheVariants.{Text, Malformed}

-- The text is a trace of at most so many bytes.
abbrev pub IsDrawn : ℕ → List ℕ → Type 0
IsDrawn limit trace = (opening : Opening) × ((said : List TraceLine) × SaysTrace limit trace opening said)

-- the answer for a trace of at most so many bytes
abbrev pub DrawsWithin : ℕ → List ℕ → ShowAnswer → Type 0
DrawsWithin limit trace (Text text) = IsDrawn limit trace
DrawsWithin limit trace (Malformed at) = IsMalformed limit trace at
