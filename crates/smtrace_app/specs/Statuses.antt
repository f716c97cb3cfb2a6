-- What `smtrace` prints, and what each of its statuses says.
use Rattle.std.specs.Prelude.{◌≡◌, ◌⊎◌, ℕ, List, [], ◌∷◌, codes, Result, Ok, Err}
use Rattle.sm_world.specs.Outside.{Outside, Rose}
use Rattle.sm_world.specs.declared.effects.Effect.{Effect}
use Rattle.program_frame.specs.Input.{front}
use Rattle.program_frame.specs.Printing.{line}
use Rattle.program_frame.specs.Programs.{RunsAs, AnswersAs, status_by, line_by}
use Rattle.trace_replay.specs.Shows.{IsShown}
use Rattle.trace_replay.specs.Traces.{IsMalformed}
use Rattle.trace_replay.specs.declared.showing.ShowAnswer.{ShowAnswer}
use Rattle.trace_replay.specs.declared.showing.ShowAnswer.TheVariants.{Text, Malformed as NoTrace}
use Rattle.trace_reading.specs.Reads.{IsRead}
use Rattle.trace_picture.specs.Draws.{IsDrawn}
use Rattle.session_replay.specs.Verdicts.{ReplaysWithin}
use Rattle.session_replay.specs.declared.replaying.Verdict.TheVariants.{Same as IsSame, Differs as IsDifferent}
use Rattle.smtrace_app.specs.Faults.{fault_line, fault_status}
use Rattle.smtrace_app.specs.declared.program.View.{View}
use Rattle.smtrace_app.specs.declared.program.View.TheVariants.{Shown, Told, Drawn}
use Rattle.smtrace_app.specs.declared.fault.Fault.{Fault}
use Rattle.smtrace_app.specs.declared.fault.Fault.TheVariants.{BadWords, Differs, Malformed, Console, NoMemory}

-- the words that ask for a view of a trace, and those that ask for it to be replayed
abbrev pub AskFor : View → List (List ℕ) → Type 0
AskFor Shown words = words ≡ codes "show" ∷ []
AskFor Told words = words ≡ codes "read" ∷ []
AskFor Drawn words = words ≡ codes "draw" ∷ []

abbrev pub AreReplay : List (List ℕ) → Type 0
AreReplay words = words ≡ codes "replay" ∷ []

-- the words ask for something
abbrev pub AreKnown : List (List ℕ) → Type 0
AreKnown words = ((view : View) × AskFor view words) ⊎ AreReplay words

-- what is read as the trace: of one that is too long, one byte more than it can have
abbrev pub trace_of : List ℕ → List ℕ
trace_of input = front (16777217) input

-- how a call of `smtrace` ended
abbrev pub Ending : Type 0
Ending = Result (Unit {0}) Fault

-- A view of a trace, which was read to its end: what is shown or told of it. Of a picture nothing more is said.
abbrev pub IsView : View → List ℕ → List ℕ → Type 0
IsView Shown bytes text = IsShown 16777216 bytes text
IsView Told bytes text = IsRead 16777216 bytes text
IsView Drawn bytes text = IsDrawn 16777216 bytes

-- what a view of a trace answers
abbrev pub Views : View → List ℕ → ShowAnswer → Type 0
Views view bytes (Text text) = IsView view bytes text
Views view bytes (NoTrace at) = IsMalformed 16777216 bytes at

-- Status 0 of `show`, `read` and `draw`: this view of the trace is printed.
abbrev pub IsPrinted : View → List ℕ → List (List ℕ) → Type 0
IsPrinted view bytes texts = (text : List ℕ) × IsView view bytes text × (texts ≡ text ∷ [])

-- Status 0 of `replay`: the trace was read to its end, its lines are those of the machine, and `same` is printed.
abbrev pub IsFoundSame : List ℕ → List (List ℕ) → Type 0
IsFoundSame bytes texts = ReplaysWithin 16777216 bytes IsSame × (texts ≡ line (codes "same") ∷ [])

-- What each ending says of the words, of the trace's bytes and of the texts that were printed before the ending's own line. The console's count stood at `before`, and now stands at `after`.
abbrev pub HasEnding : List (List ℕ) → ℕ → ℕ → List ℕ → List (List ℕ) → Ending → Type 0
HasEnding words before after bytes texts (Ok x) = ((view : View) × AskFor view words × IsPrinted view bytes texts) ⊎ (AreReplay words × IsFoundSame bytes texts)
HasEnding words before after bytes texts (Err BadWords) = (¬ (AreKnown words)) × (texts ≡ [])
HasEnding words before after bytes texts (Err (Differs at)) = AreReplay words × ReplaysWithin 16777216 bytes (IsDifferent at) × (texts ≡ [])
HasEnding words before after bytes texts (Err (Malformed at)) = AreKnown words × IsMalformed 16777216 bytes at × (texts ≡ [])
HasEnding words before after bytes texts (Err Console) = AreKnown words × Rose before after × (texts ≡ [])
HasEnding words before after bytes texts (Err NoMemory) = AreKnown words × (texts ≡ [])

-- A run of these words ended so, and its effects are these.
abbrev pub Runs : List (List ℕ) → Outside → Outside → Ending → List Effect → Type 0
Runs words old new ending = RunsAs old.input (λ input texts. HasEnding words old.faults.console new.faults.console (trace_of input) texts ending)

-- A call with these words answered this status: it ran, and then tried its ending's line once.
abbrev pub Answers : List (List ℕ) → Outside → Outside → ℕ → List Effect → Type 0
Answers words old new = AnswersAs (Runs words old new) (status_by fault_status) (line_by fault_line)
