-- What `smnest` does and prints, and what each of its statuses says.
use Rattle.std.specs.Prelude.{◌≡◌, ◌⊎◌, ℕ, List, [], ◌∷◌, Ok, Err}
use Rattle.event_script.specs.Script.{IsFirstBad}
use Rattle.event_script.specs.declared.script.Taken.TheVariants.{All}
use Rattle.program_frame.specs.Programs.{AnswersAs, RunsAs, line_by, status_by}
use Rattle.sm_world.specs.Outside.{Outside, Rose}
use Rattle.sm_world.specs.declared.effects.Effect.{Effect}
use Rattle.sm_world.specs.declared.events.Event.{Event}
use Rattle.smd_app.specs.Rehearsals.{script_of}
use Rattle.smd_app.specs.declared.fault.Fault.{Fault as SessionFault}
use Rattle.smd_app.specs.declared.fault.Fault.TheVariants.{BadWords, Damaged, WrongSize, TooManySessions, Disk, Links, Console, BadLine, Worn, Spent, NoMemory}
use Rattle.smd_app.specs.declared.identity.Identity.{Identity}
use Rattle.smnest_app.specs.FaultLines.{Ending, fault_line, fault_status}
use Rattle.smnest_app.specs.Rehearsals.{Finishes, Outlasts, first_trace, whole_trace}
use Rattle.smnest_app.specs.Sessions.{RunsSession}
use Rattle.smnest_app.specs.Words.{Means, Rehearse, Serve, Task}
use Rattle.smnest_app.specs.declared.fault.Fault.TheVariants.{Session, NoCookie}

module _ (words : List (List ℕ)) (id : List ℕ) where
  -- Status 0: the run came to its own end, and the trace of the whole run is printed.
  abbrev pub IsEnded : List ℕ → ℕ → List (List ℕ) → Type 0
  IsEnded bytes turns texts = (events : List Event) × Finishes id words bytes turns events × (texts ≡ whole_trace id words events ∷ [])

  -- Status 9: the turns were spent, and the trace for so many events is printed.
  abbrev pub IsSpent : List ℕ → ℕ → List (List ℕ) → Type 0
  IsSpent bytes turns texts = (events : List Event) × Outlasts id words bytes turns events × (texts ≡ first_trace id words turns events ∷ [])

  -- What each fault of a rehearsal says of the script's bytes and of the texts that were printed before the fault's own line. The console's count stood at `before`, and now stands at `after`.
  abbrev pub HasFailed : ℕ → ℕ → List ℕ → ℕ → List (List ℕ) → SessionFault → Type 0
  HasFailed before after bytes turns texts Console = Rose before after × (texts ≡ [])
  HasFailed before after bytes turns texts (BadLine n) = IsFirstBad All bytes n × (texts ≡ [])
  HasFailed before after bytes turns texts Spent = IsSpent bytes turns texts
  HasFailed before after bytes turns texts NoMemory = texts ≡ []
  HasFailed before after bytes turns texts BadWords = ⊥
  HasFailed before after bytes turns texts (Damaged at) = ⊥
  HasFailed before after bytes turns texts (WrongSize size) = ⊥
  HasFailed before after bytes turns texts TooManySessions = ⊥
  HasFailed before after bytes turns texts Disk = ⊥
  HasFailed before after bytes turns texts Links = ⊥
  HasFailed before after bytes turns texts Worn = ⊥

  -- the same of each ending
  abbrev pub HasRehearsed : ℕ → ℕ → List ℕ → ℕ → List (List ℕ) → Ending → Type 0
  HasRehearsed before after bytes turns texts (Ok x) = IsEnded bytes turns texts
  HasRehearsed before after bytes turns texts (Err (Session fault)) = HasFailed before after bytes turns texts fault
  HasRehearsed before after bytes turns texts (Err NoCookie) = ⊥

-- A run of what the words ask for ended so, and its effects are these.
abbrev pub RunsTask : List (List ℕ) → Task → Identity → ℕ → Outside → Outside → Ending → List Effect → Type 0
RunsTask words (Rehearse id) identity turns old new ending effects = RunsAs old.input (λ input texts. HasRehearsed words id old.faults.console new.faults.console (script_of input) turns texts ending) effects
RunsTask words (Serve places) identity turns old new ending effects = RunsSession words identity places turns old new ending effects

-- the words ask for something, and this was done
pub record DoesTask (words : List (List ℕ)) (identity : Identity) (turns : ℕ) (old new : Outside) (ending : Ending) (effects : List Effect) : Type 0 where
  pub task : Task
  pub means : Means words task
  pub ran : RunsTask words task identity turns old new ending effects

-- Nothing was done: the words ask for nothing, or there was no memory to read them.
pub record DoesNothing (words : List (List ℕ)) (ending : Ending) (effects : List Effect) : Type 0 where
  pub cause : (((task : Task) → ¬ (Means words task)) × (ending ≡ Err (Session BadWords))) ⊎ (ending ≡ Err (Session NoMemory))
  pub none : effects ≡ []

abbrev pub Runs : List (List ℕ) → Identity → ℕ → Outside → Outside → Ending → List Effect → Type 0
Runs words identity turns old new ending effects = DoesTask words identity turns old new ending effects ⊎ DoesNothing words ending effects

-- A call with these words answered this status: it ran, and then tried its ending's line once.
abbrev pub Answers : List (List ℕ) → Identity → Outside → Outside → ℕ → ℕ → List Effect → Type 0
Answers words identity old new turns = AnswersAs (Runs words identity turns old new) (status_by fault_status) (line_by fault_line)
