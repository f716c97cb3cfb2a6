-- What replaying a trace answers.
use Rattle.std.specs.Prelude.{◌≡◌, ℕ, ◌+◌, List, length}
use Rattle.sm_world.specs.declared.events.Event.{Event}
use Rattle.control_lines.specs.Lines.{lines_of}
use Rattle.session_engine.specs.Carries.{run}
use Rattle.session_in_memory.specs.Lines.{run_lines}
use Rattle.trace_replay.specs.Openings.{behind_opening}
use Rattle.trace_replay.specs.Traces.{IsMalformed, SaysTrace, events_in}
use Rattle.trace_replay.specs.declared.lines.TraceLine.{TraceLine}
use Rattle.trace_replay.specs.declared.opening.Opening.{Opening}
use Rattle.session_replay.specs.Comparing.{AreLinesOf, PartWith}
use Rattle.session_replay.specs.Running.{book_of, config_of}
use Rattle.session_replay.specs.declared.replaying.Verdict.{Verdict}
use Rattle.session_replay.specs.declared.replaying.Verdict.TheVariants.{Same, Differs, Malformed}

-- the lines of the machine's run over these events, by what a trace opens with
abbrev pub machine_lines : Opening → List Event → List (List ℕ)
machine_lines opening events = run_lines (run (config_of opening) (book_of opening) events)

-- The verdict on the lines behind an opening, where these are the trace's events: they are those of the machine. Or the line with this
-- number, counted from 1, is the first that isn't the one that the machine gives next; where only lines are missing it is the number after
-- the last line.
abbrev pub Judges : List ℕ → Opening → List Event → Verdict → Type 0
Judges trace opening events Same = AreLinesOf (machine_lines opening events) (behind_opening opening (lines_of trace))
Judges trace opening events (Differs at) =
    (left : ℕ) × PartWith (machine_lines opening events) (behind_opening opening (lines_of trace)) left × (at + left ≡ length (lines_of trace) + 1)
Judges trace opening events (Malformed at) = ⊥

-- All lines are of the grammar, and this is the verdict over the trace's own events.
pub record IsJudged (limit : ℕ) (trace : List ℕ) (verdict : Verdict) : Type 0 where
  pub opening : Opening
  pub said : List TraceLine
  pub says : SaysTrace limit trace opening said
  pub judged : Judges trace opening (events_in said) verdict

-- the verdict on a trace that may have so many bytes
abbrev pub ReplaysWithin : ℕ → List ℕ → Verdict → Type 0
ReplaysWithin limit trace Same = IsJudged limit trace Same
ReplaysWithin limit trace (Differs at) = IsJudged limit trace (Differs at)
ReplaysWithin limit trace (Malformed at) = IsMalformed limit trace at

-- the verdict on a trace, however long it is
abbrev pub Replays : List ℕ → Verdict → Type 0
Replays trace verdict = ReplaysWithin (length trace) trace verdict
