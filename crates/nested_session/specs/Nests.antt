-- What a call of `serve_nested` does: the inner session is a run of the session machine, what is said outside is what the agent's script
-- says, in its place, and what was told as a success is on the disk.
use Rattle.std.specs.Prelude.{◌≡◌, ◌↔◌, ℕ, ◌<◌, ◌≤◌, true, false, List, ◌∷◌, ◌++◌, length, Option, Result, IsErrOf, IsOk}
use Rattle.std.specs.List.{AllByRecursion}
use Rattle.sm_world.specs.Crash.{Image}
use Rattle.sm_world.specs.Effects.{heard}
use Rattle.sm_world.specs.declared.effects.Effect.{Effect}
use Rattle.sm_world.specs.declared.effects.Effect.TheVariants.{Sent}
use Rattle.sm_world.specs.declared.events.Event.{Event}
use Rattle.sm_world.specs.declared.events.Order.TheVariants.{Checkpoint}
use Rattle.heard_events.specs.Brought.{Brought, IsPrefix}
use Rattle.agreement_marks.specs.Agreements.{HasSaved}
use Rattle.checkpoint_records.specs.declared.records.Book.{Book}
use Rattle.checkpoint_slots.specs.Turns.{SteadyStands}
use Rattle.checkpoint_slots.specs.declared.turn.Current.{Current}
use Rattle.client_engine.specs.Driving.{Run}
use Rattle.client_engine.specs.Messages.{spelled}
use Rattle.outer_agent.specs.Script.{Keeper}
use Rattle.protocol_messages.specs.declared.message.Message.TheVariants.{Xsmp}
use Rattle.session_engine.specs.Carries.{IsCurrent, Runs, is_whole}
use Rattle.session_engine.specs.Machine.{after_all, start}
use Rattle.session_engine.specs.Standing.{as_stored}
use Rattle.session_engine.specs.declared.config.Config.{Config}
use Rattle.session_engine.specs.declared.fault.ServeFault.{ServeFault}
use Rattle.session_engine.specs.declared.fault.ServeFault.TheVariants.{Spent}
use Rattle.session_model.specs.Moves.{History, Move, onto}
use Rattle.session_model.specs.Readings as of
use Rattle.xsmp_messages.specs.declared.message.XsmpMessage.TheVariants.{SaveYourselfDone}
use Rattle.nested_session.specs.Nesting.{nested}
use Rattle.nested_session.specs.Woven.{Inner, Outer, Put, Woven, all_inner, effects_of, is_of_outer, shown}

-- the bytes by which a save is told to have succeeded
abbrev pub success : List ℕ
success = spelled (Xsmp (SaveYourselfDone true))

-- an order other than to save
abbrev pub IsNoCheckpoint : Woven Effect → Type 0
IsNoCheckpoint (Put Checkpoint) = ⊥
IsNoCheckpoint it = Unit {0}

-- the outer connection has effects of its own alone
abbrev pub IsApart : Woven Effect → Type 0
IsApart (Inner effect) = Unit {0}
IsApart (Outer effect) = is_of_outer effect ≡ true
IsApart (Put order) = Unit {0}

-- The last order to save stands behind these.
pub record LastSave (all : List (Woven Effect)) : Type 0 where
  pub early : List (Woven Effect)
  pub late : List (Woven Effect)
  pub parts : early ++ Put Checkpoint ∷ late ≡ all
  pub last : AllByRecursion IsNoCheckpoint late

module _ (config : Config) (opening : Book) where
  -- all that happened in the inner session
  abbrev pub session_of : List (Woven Effect) → History
  session_of all = (after_all (start config opening) (heard (all_inner all))).session

  -- Since the last order to save, a round of all clients began, its book was written and it was agreed; and each file that a crash could
  -- leave now recovers to the last book that was written.
  pub record IsBacked (current : Option Current) (all : List (Woven Effect)) : Type 0 where
    pub save : LastSave all
    pub moves : List Move
    pub since : onto (session_of save.early) moves ≡ session_of all
    pub saved : HasSaved moves
    pub files : (first : List ℕ) (before : List Effect) → SteadyStands current (as_stored opening) first before → (file : List ℕ) → Image first (before ++ effects_of all) file → IsCurrent config opening (all_inner all) file

  -- Where the end of a save is awaited: the last order to save, and how many rounds had begun before it.
  pub record Since (begun : ℕ) (all : List (Woven Effect)) : Type 0 where
    pub save : LastSave all
    pub begun_then : begun ≡ (of.marks (session_of save.early)).begun

  -- each file that a crash could leave of the inner session alone recovers to the last book
  abbrev pub IsCurrentAt : Option Current → List (Woven Effect) → Type 0
  IsCurrentAt current all =
      (first : List ℕ) (before : List Effect) → SteadyStands current (as_stored opening) first before → (file : List ℕ) → Image first (before ++ all_inner all) file → IsCurrent config opening (all_inner all) file

  -- Wherever a success was told, the save was backed.
  abbrev pub SuccessIsBacked : Option Current → List (Woven Effect) → Type 0
  SuccessIsBacked current all = (front rest : List (Woven Effect)) → front ++ Outer (Sent 0 success) ∷ rest ≡ all → IsBacked current front

  -- What was woven, against the events among it, where the agent and its first bytes were handed in.
  pub record Nests (current : Option Current) (coming : Option (List Event)) (turns : ℕ) (agent : Run Keeper) (first : List ℕ) (answer : Result (Unit {0}) ServeFault) (all : List (Woven Effect)) : Type 0 where
    -- the inner session is a run of the session machine
    pub inner : Runs config opening current answer (all_inner all)
    -- what is on the outer connection is of that alone
    pub apart : AllByRecursion IsApart all
    -- what is shown is what the machine and the agent's script show, as far as it goes: before anything more is heard, all of it was done
    pub on_script : IsPrefix (shown all) (nested config opening agent first (heard (effects_of all))).line
    -- and all of it where no fault cut the run short
    pub whole : is_whole answer ≡ true → shown all ≡ (nested config opening agent first (heard (effects_of all))).line
    pub backed : SuccessIsBacked current all
    pub brought : Brought coming (heard (effects_of all))
    -- no more is heard than was granted
    pub in_turns : length (heard (effects_of all)) ≤ turns
    -- the turns are spent where so many events were heard and none ended the run
    pub spent : IsErrOf answer Spent → (length (heard (effects_of all)) ≡ turns) × ((nested config opening agent first (heard (effects_of all))).next.finished ≡ false)
    -- Ok is the inner session's own end
    pub ended : IsOk answer → (nested config opening agent first (heard (effects_of all))).next.finished ≡ true

-- A crash leaves the same files of what was woven as of the inner session alone.
abbrev pub BothLeaveTheSame : Type 0
BothLeaveTheSame =
    (first : List ℕ) (before : List Effect) (all : List (Woven Effect)) → AllByRecursion IsApart all → (file : List ℕ) → Image first (before ++ effects_of all) file ↔ Image first (before ++ all_inner all) file

-- Where the end of a save is awaited, and a later round was agreed, the save is on the disk.
abbrev pub AwaitedSavesAreBacked : Type 0
AwaitedSavesAreBacked =
    (config : Config) (opening : Book) (current : Option Current) (begun : ℕ) (all : List (Woven Effect)) → Since config opening begun all → AllByRecursion IsApart all → IsCurrentAt config opening current all
    → begun < (of.marks (session_of config opening all)).agreed → IsBacked config opening current all
