-- What `smd` does and prints, and what each of its statuses says.
use Rattle.std.specs.Prelude.{◌≡◌, ◌⊎◌, ℕ, ◌≤◌, true, false, List, [], ◌∷◌, length, Result, Ok, Err}
use Rattle.sm_world.specs.Outside.{Outside, Rose}
use Rattle.sm_world.specs.declared.effects.Effect.{Effect}
use Rattle.sm_world.specs.declared.events.Event.{Event}
use Rattle.program_frame.specs.Printing.{ArePrinted}
use Rattle.program_frame.specs.Programs.{RunsAs, AnswersAs, status_by, line_by}
use Rattle.smd_app.specs.Exercises.{exercise_events}
use Rattle.smd_app.specs.FaultLines.{fault_line, fault_status}
use Rattle.smd_app.specs.Rehearsals.{script_of, ends_within, Finishes, Outlasts, whole_trace, first_trace}
use Rattle.smd_app.specs.Script.{IsFirstBad}
use Rattle.smd_app.specs.Sessions.{RunsSession}
use Rattle.smd_app.specs.Summaries.{IsSummary}
use Rattle.smd_app.specs.Words.{Task, Rehearse, Exercise, Serve, Means}
use Rattle.smd_app.specs.declared.fault.Fault.{Fault}
use Rattle.smd_app.specs.declared.fault.Fault.TheVariants.{BadWords, Damaged, WrongSize, TooManySessions, Disk, Links, Console, BadLine, Worn, Spent, NoMemory}
use Rattle.smd_app.specs.declared.identity.Identity.{Identity}

-- how a call of `smd` ended
abbrev pub Ending : Type 0
Ending = Result (Unit {0}) Fault

-- Status 0: the run came to its own end, and the trace of the whole run is printed.
abbrev pub IsEnded : ℕ → List ℕ → ℕ → List (List ℕ) → Type 0
IsEnded patience bytes turns texts = (events : List Event) × Finishes patience bytes turns events × (texts ≡ whole_trace patience events ∷ [])

-- Status 9: the turns were spent, and the trace for so many events is printed.
abbrev pub IsSpent : ℕ → List ℕ → ℕ → List (List ℕ) → Type 0
IsSpent patience bytes turns texts = (events : List Event) × Outlasts patience bytes turns events × (texts ≡ first_trace patience turns events ∷ [])

-- What each ending of a rehearsal with this patience says of the script's bytes and of the texts that were printed before the ending's own line. The console's count stood at `before`, and now stands at `after`.
abbrev pub HasRehearsed : ℕ → ℕ → ℕ → List ℕ → ℕ → List (List ℕ) → Ending → Type 0
HasRehearsed before after patience bytes turns texts (Ok x) = IsEnded patience bytes turns texts
HasRehearsed before after patience bytes turns texts (Err Console) = Rose before after × (texts ≡ [])
HasRehearsed before after patience bytes turns texts (Err (BadLine n)) = IsFirstBad bytes n × (texts ≡ [])
HasRehearsed before after patience bytes turns texts (Err Spent) = IsSpent patience bytes turns texts
HasRehearsed before after patience bytes turns texts (Err NoMemory) = texts ≡ []
HasRehearsed before after patience bytes turns texts (Err BadWords) = ⊥
HasRehearsed before after patience bytes turns texts (Err (Damaged at)) = ⊥
HasRehearsed before after patience bytes turns texts (Err (WrongSize size)) = ⊥
HasRehearsed before after patience bytes turns texts (Err TooManySessions) = ⊥
HasRehearsed before after patience bytes turns texts (Err Disk) = ⊥
HasRehearsed before after patience bytes turns texts (Err Links) = ⊥
HasRehearsed before after patience bytes turns texts (Err Worn) = ⊥

-- The same of an exercise with these events, whose patience is 0. Its summary is printed at status 0 alone.
abbrev pub HasExercised : ℕ → ℕ → List Event → ℕ → List (List ℕ) → Ending → Type 0
HasExercised before after events turns texts (Ok x) = (ends_within 0 turns events ≡ true) × ((text : List ℕ) × IsSummary events text × (texts ≡ text ∷ []))
HasExercised before after events turns texts (Err Console) = Rose before after × (texts ≡ [])
HasExercised before after events turns texts (Err Spent) = (turns ≤ length events) × (ends_within 0 turns events ≡ false) × (texts ≡ [])
HasExercised before after events turns texts (Err NoMemory) = texts ≡ []
HasExercised before after events turns texts (Err BadWords) = ⊥
HasExercised before after events turns texts (Err (BadLine n)) = ⊥
HasExercised before after events turns texts (Err (Damaged at)) = ⊥
HasExercised before after events turns texts (Err (WrongSize size)) = ⊥
HasExercised before after events turns texts (Err TooManySessions) = ⊥
HasExercised before after events turns texts (Err Disk) = ⊥
HasExercised before after events turns texts (Err Links) = ⊥
HasExercised before after events turns texts (Err Worn) = ⊥

-- An exercise ended so: it printed some texts, and did nothing else that a world tells.
pub record RunsExercise (before after : ℕ) (events : List Event) (turns : ℕ) (ending : Ending) (effects : List Effect) : Type 0 where
  pub texts : List (List ℕ)
  pub printed : ArePrinted texts effects
  pub holds : HasExercised before after events turns texts ending

-- A run of what the words ask for ended so, and its effects are these.
abbrev pub RunsTask : Task → Identity → ℕ → Outside → Outside → Ending → List Effect → Type 0
RunsTask (Rehearse patience) identity turns old new ending effects = RunsAs old.input (λ input texts. HasRehearsed old.faults.console new.faults.console patience (script_of input) turns texts ending) effects
RunsTask (Exercise pattern rounds) identity turns old new ending effects = RunsExercise old.faults.console new.faults.console (exercise_events pattern rounds) turns ending effects
RunsTask (Serve places) identity turns old new ending effects = RunsSession identity places turns old new ending effects

-- the words ask for something, and this was done
pub record DoesTask (words : List (List ℕ)) (identity : Identity) (turns : ℕ) (old new : Outside) (ending : Ending) (effects : List Effect) : Type 0 where
  pub task : Task
  pub means : Means words task
  pub ran : RunsTask task identity turns old new ending effects

-- Nothing was done: the words ask for nothing, or there was no memory to read them.
pub record DoesNothing (words : List (List ℕ)) (ending : Ending) (effects : List Effect) : Type 0 where
  pub cause : (((task : Task) → ¬ (Means words task)) × (ending ≡ Err BadWords)) ⊎ (ending ≡ Err NoMemory)
  pub none : effects ≡ []

abbrev pub Runs : List (List ℕ) → Identity → ℕ → Outside → Outside → Ending → List Effect → Type 0
Runs words identity turns old new ending effects = DoesTask words identity turns old new ending effects ⊎ DoesNothing words ending effects

-- A call with these words answered this status: it ran, and then tried its ending's line once.
abbrev pub Answers : List (List ℕ) → Identity → Outside → Outside → ℕ → ℕ → List Effect → Type 0
Answers words identity old new turns = AnswersAs (Runs words identity turns old new) (status_by fault_status) (line_by fault_line)
