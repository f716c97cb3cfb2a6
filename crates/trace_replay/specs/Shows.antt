-- What showing a trace answers.
use Rattle.std.specs.Prelude.{◌≡◌, ℕ, List, length}
use Rattle.trace_replay.specs.Shown.{shown}
use Rattle.trace_replay.specs.Traces.{IsMalformed, SaysTrace}
use Rattle.trace_replay.specs.declared.lines.TraceLine.{TraceLine}
use Rattle.trace_replay.specs.declared.opening.Opening.{Opening}
use Rattle.trace_replay.specs.declared.showing.ShowAnswer.{ShowAnswer}
use Rattle.trace_replay.specs.declared.showing.ShowAnswer.TheVariants.{Text, Malformed}

-- A trace of at most so many bytes, and what is shown of it: nothing of its opening.
pub record IsShown (limit : ℕ) (trace text : List ℕ) : Type 0 where
  pub opening : Opening
  pub said : List TraceLine
  pub says : SaysTrace limit trace opening said
  pub text_is : text ≡ shown said

-- the answer for a trace of at most so many bytes
abbrev pub ShowsWithin : ℕ → List ℕ → ShowAnswer → Type 0
ShowsWithin limit trace (Text text) = IsShown limit trace text
ShowsWithin limit trace (Malformed at) = IsMalformed limit trace at

-- the answer for a trace, however long it is
abbrev pub Shows : List ℕ → ShowAnswer → Type 0
Shows trace answer = ShowsWithin (length trace) trace answer
