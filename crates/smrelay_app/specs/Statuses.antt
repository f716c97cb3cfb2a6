-- What `smrelay` does and prints, and what each of its statuses says.
use Rattle.std.specs.Prelude.{◌≡◌, ◌⊎◌, ℕ, List, [], ◌∷◌, Result, Ok, Err}
use Rattle.sm_world.specs.Outside.{Outside, Rose}
use Rattle.sm_world.specs.declared.effects.Effect.{Effect}
use Rattle.sm_world.specs.declared.events.Event.{Event}
use Rattle.ice_values.specs.declared.numbers.Endian.{Endian}
use Rattle.event_script.specs.Script.{IsFirstBad}
use Rattle.event_script.specs.declared.script.Taken.TheVariants.{WithoutOrders}
use Rattle.program_frame.specs.Programs.{RunsAs, AnswersAs, status_by, line_by}
use Rattle.smrelay_app.specs.FaultLines.{fault_line, fault_status}
use Rattle.smrelay_app.specs.Rehearsals.{script_of, Finishes, Outlasts, whole_trace, first_trace}
use Rattle.smrelay_app.specs.Serving.{RunsRelay}
use Rattle.smrelay_app.specs.Words.{Task, Rehearse, Serve, Means}
use Rattle.smrelay_app.specs.declared.fault.Fault.{Fault}
use Rattle.smrelay_app.specs.declared.fault.Fault.TheVariants.{BadWords, Links, Console, BadLine, Spent, NoMemory}

-- how a call of `smrelay` ended
abbrev pub Ending : Type 0
Ending = Result (Unit {0}) Fault

-- Status 0: End was heard, and the trace of the whole run is printed.
abbrev pub IsEnded : Endian → List ℕ → ℕ → List (List ℕ) → Type 0
IsEnded to bytes turns texts = (events : List Event) × Finishes bytes turns events × (texts ≡ whole_trace to events ∷ [])

-- Status 9: the turns were spent, and the trace for so many events is printed.
abbrev pub IsSpent : Endian → List ℕ → ℕ → List (List ℕ) → Type 0
IsSpent to bytes turns texts = (events : List Event) × Outlasts bytes turns events × (texts ≡ first_trace to turns events ∷ [])

-- What each ending of a rehearsal says of the script's bytes and of the texts that were printed before the ending's own line. The console's count stood at `before`, and now stands at `after`.
abbrev pub HasRehearsed : Endian → ℕ → ℕ → List ℕ → ℕ → List (List ℕ) → Ending → Type 0
HasRehearsed to before after bytes turns texts (Ok x) = IsEnded to bytes turns texts
HasRehearsed to before after bytes turns texts (Err Console) = Rose before after × (texts ≡ [])
HasRehearsed to before after bytes turns texts (Err (BadLine n)) = IsFirstBad WithoutOrders bytes n × (texts ≡ [])
HasRehearsed to before after bytes turns texts (Err Spent) = IsSpent to bytes turns texts
HasRehearsed to before after bytes turns texts (Err NoMemory) = texts ≡ []
HasRehearsed to before after bytes turns texts (Err BadWords) = ⊥
HasRehearsed to before after bytes turns texts (Err Links) = ⊥

-- A run of what the words ask for ended so, and its effects are these.
abbrev pub RunsTask : Task → ℕ → Outside → Outside → Ending → List Effect → Type 0
RunsTask (Rehearse to) turns old new ending effects = RunsAs old.input (λ input texts. HasRehearsed to old.faults.console new.faults.console (script_of input) turns texts ending) effects
RunsTask (Serve to places) turns old new ending effects = RunsRelay to turns old new ending effects

-- the words ask for something, and this was done
pub record DoesTask (words : List (List ℕ)) (turns : ℕ) (old new : Outside) (ending : Ending) (effects : List Effect) : Type 0 where
  pub task : Task
  pub means : Means words task
  pub ran : RunsTask task turns old new ending effects

-- The words ask for nothing, and nothing was done.
pub record DoesNothing (words : List (List ℕ)) (ending : Ending) (effects : List Effect) : Type 0 where
  pub means_none : (task : Task) → ¬ (Means words task)
  pub refused : ending ≡ Err BadWords
  pub none : effects ≡ []

abbrev pub Runs : List (List ℕ) → ℕ → Outside → Outside → Ending → List Effect → Type 0
Runs words turns old new ending effects = DoesTask words turns old new ending effects ⊎ DoesNothing words ending effects

-- A call with these words answered this status: it ran, and then tried its ending's line once.
abbrev pub Answers : List (List ℕ) → Outside → Outside → ℕ → ℕ → List Effect → Type 0
Answers words old new turns = AnswersAs (Runs words turns old new) (status_by fault_status) (line_by fault_line)
