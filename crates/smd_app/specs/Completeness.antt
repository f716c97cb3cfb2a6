-- Where nothing stands against a task, its call ends at the machine's own end or behind its last turn, with all done, or for want of memory.
use Rattle.std.specs.Prelude.{◌≡◌, ◌⊎◌, ℕ, ◌+◌, ◌<◌, ◌≤◌, ◌^◌, true, false, List, [], ◌∷◌, ◌++◌, length, Option, Some, Ok, Err, is_ok}
use Rattle.sm_world.specs.Effects.{heard, deeds}
use Rattle.sm_world.specs.Outside.{Outside, Rose}
use Rattle.sm_world.specs.declared.effects.Effect.{Effect}
use Rattle.sm_world.specs.declared.effects.Effect.TheVariants.{Printed}
use Rattle.sm_world.specs.declared.events.Event.{Event}
use Rattle.sm_world.specs.declared.failures.Faults.{Faults}
use Rattle.session_engine.specs.declared.config.Config.{Config}
use Rattle.checkpoint_records.specs.Books.{choose}
use Rattle.checkpoint_records.specs.declared.records.Book.{Book}
use Rattle.checkpoint_slots.specs.Causes.{IsSettled}
use Rattle.checkpoint_slots.specs.Recovery.{Recovers}
use Rattle.checkpoint_slots.specs.Turns.{HasCurrent, next_generation}
use Rattle.checkpoint_slots.specs.declared.turn.Current.{Current}
use Rattle.program_frame.specs.Programs.{line_by}
use Rattle.program_frame.specs.Printing.{Tries}
use Rattle.session_engine.specs.Acts.{commits_in, deeds_in, has_finish}
use Rattle.heard_events.specs.Brought.{Brought}
use Rattle.session_engine.specs.Carries.{script}
use Rattle.smd_app.specs.Exercises.{exercise_events}
use Rattle.smd_app.specs.FaultLines.{fault_line}
use Rattle.smd_app.specs.Rehearsals.{script_of, ends_within, Finishes, Outlasts, whole_trace, first_trace}
use Rattle.smd_app.specs.Script.{ScriptSays}
use Rattle.smd_app.specs.Sessions.{config_of, handing_out, announcing}
use Rattle.smd_app.specs.Statuses.{Answers, Ending}
use Rattle.smd_app.specs.Summaries.{IsSummary}
use Rattle.smd_app.specs.Words.{Places, Task, Rehearse, Exercise, Serve, Means}
use Rattle.smd_app.specs.declared.fault.Fault.TheVariants.{Spent}
use Rattle.smd_app.specs.declared.identity.Identity.{Identity}
use Rattle.checkpoint_slots.specs.Layout.{store_size}

-- No count but the spawner's rose.
pub record NoneRose (old new : Faults) : Type 0 where
  pub disk : ¬ (Rose old.disk new.disk)
  pub links : ¬ (Rose old.links new.links)
  pub console : ¬ (Rose old.console new.console)

-- The store of a world recovers to one in which this is the session's book. It has room for this session, its epoch can be raised, and there is a generation for each checkpoint that the machine decides over what is heard.
pub record CanServe (config : Config) (old : Outside) (file : List ℕ) (book : Book) (events : List Event) : Type 0 where
  pub settled : IsSettled old file
  pub size : old.size ≡ store_size
  pub stored : Book
  pub recovers : Recovers file (Ok stored)
  pub chosen : choose config.session stored ≡ book
  pub few : length book.others ≤ 7
  pub epoch : book.epoch < 4294967295
  pub generations : (current : Option Current) → HasCurrent current file → next_generation current + commits_in (script config book events) ≤ 2 ^ 64

-- Status 0 or 9, with what it says, or want of memory.
abbrev pub EndsWell : ℕ → Type 0 → Type 0 → Type 0
EndsWell status Ended Spends = ((status ≡ 0) × Ended) ⊎ (((status ≡ 9) × Spends) ⊎ (status ≡ 10))

-- These effects, and then the ending's line was tried once.
pub record EndsWith (own : List Effect) (ending : Ending) (effects : List Effect) : Type 0 where
  pub last : List Effect
  pub parts : effects ≡ own ++ last
  pub tried : Tries (line_by fault_line ending) last

-- The first of the events to come were heard, and all was done that the machine does for them; it is at its end where the ending is no fault.
pub record HasDoneAll (identity : Identity) (places : Places) (coming : Option (List Event)) (book : Book) (turns : ℕ) (ending : Ending) (effects : List Effect) : Type 0 where
  pub own : List Effect
  pub all : EndsWith (handing_out identity places ++ (announcing identity places ++ own)) ending effects
  pub brought : Brought coming (heard own)
  pub in_turns : length (heard own) ≤ turns
  pub done : deeds own ≡ deeds_in (script (config_of identity places) book (heard own))
  pub finish : has_finish (script (config_of identity places) book (heard own)) ≡ is_ok ending

-- A rehearsal prints the trace of the whole run, or that for as many events as there were turns.
abbrev pub RehearsesWell : ℕ → List ℕ → List Event → ℕ → ℕ → List Effect → Type 0
RehearsesWell patience bytes events turns status effects =
    EndsWell status
    (Finishes patience bytes turns events × EndsWith (Printed (whole_trace patience events) ∷ []) (Ok tt) effects)
    (Outlasts patience bytes turns events × EndsWith (Printed (first_trace patience turns events) ∷ []) (Err Spent) effects)

-- An exercise prints the summary of the whole run, or nothing.
abbrev pub ExercisesWell : List Event → ℕ → ℕ → List Effect → Type 0
ExercisesWell events turns status effects =
    EndsWell status
    ((ends_within 0 turns events ≡ true) × ((text : List ℕ) × IsSummary events text × EndsWith (Printed text ∷ []) (Ok tt) effects))
    ((turns ≤ length events) × (ends_within 0 turns events ≡ false) × EndsWith [] (Err Spent) effects)

-- A session does all that the machine does for what it heard.
abbrev pub ServesWell : Identity → Places → Option (List Event) → Book → ℕ → ℕ → List Effect → Type 0
ServesWell identity places coming book turns status effects =
    EndsWell status
    (HasDoneAll identity places coming book turns (Ok tt) effects)
    (HasDoneAll identity places coming book turns (Err Spent) effects × (length (heard effects) ≡ turns))

-- What a call comes to: a rehearsal of a script that is well formed, an exercise, and a session whose store can serve.
abbrev pub Completes : Task → Identity → Outside → ℕ → ℕ → List Effect → Type 0
Completes (Rehearse patience) identity old turns status effects = (input : List ℕ) (events : List Event) → old.input ≡ Some input → ScriptSays (script_of input) events → RehearsesWell patience (script_of input) events turns status effects
Completes (Exercise pattern rounds) identity old turns status effects = ExercisesWell (exercise_events pattern rounds) turns status effects
Completes (Serve places) identity old turns status effects = (file : List ℕ) (book : Book) → CanServe (config_of identity places) old file book (heard effects) → ServesWell identity places old.coming book turns status effects

-- A call whose words mean a task, and in which no count but the spawner's rose, answers 0 with all done, 9 after all its turns with all done, or 10.
abbrev pub CallsComplete : Type 0
CallsComplete =
    (words : List (List ℕ)) (task : Task) (identity : Identity) (old new : Outside) (turns status : ℕ) (effects : List Effect) → Means words task → NoneRose old.faults new.faults → Answers words identity old new turns status effects → Completes task identity old turns status effects

-- Words mean one task at most.
abbrev pub WordsMeanOne : Type 0
WordsMeanOne = (words : List (List ℕ)) (one two : Task) → Means words one → Means words two → one ≡ two
