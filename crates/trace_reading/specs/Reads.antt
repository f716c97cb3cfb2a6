-- What telling a trace answers.
use Rattle.std.specs.Prelude.{◌≡◌, ℕ, List}
use Rattle.trace_replay.specs.Traces.{IsMalformed, SaysTrace}
use Rattle.trace_replay.specs.declared.lines.TraceLine.{TraceLine}
use Rattle.trace_replay.specs.declared.opening.Opening.{Opening}
use Rattle.trace_replay.specs.declared.showing.ShowAnswer.{ShowAnswer}
use Rattle.trace_replay.specs.declared.showing.ShowAnswer.TheVariants.{Text, Malformed}
use Rattle.trace_reading.specs.Told.{told}

-- A trace of at most so many bytes, and what is told of it.
pub record IsRead (limit : ℕ) (trace text : List ℕ) : Type 0 where
  pub opening : Opening
  pub said : List TraceLine
  pub says : SaysTrace limit trace opening said
  pub text_is : text ≡ told opening said

-- the answer for a trace of at most so many bytes
abbrev pub ReadsWithin : ℕ → List ℕ → ShowAnswer → Type 0
ReadsWithin limit trace (Text text) = IsRead limit trace text
ReadsWithin limit trace (Malformed at) = IsMalformed limit trace at
