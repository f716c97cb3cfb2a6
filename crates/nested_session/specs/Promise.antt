-- The headline of a nested session, for a store of which no byte was in doubt.
use Rattle.std.specs.Prelude.{◌≡◌, ℕ, true, List, ◌∷◌, ◌++◌, Result}
use Rattle.std.specs.List.{AllByRecursion}
use Rattle.sm_world.specs.Crash.{Image}
use Rattle.sm_world.specs.Effects.{deeds, heard}
use Rattle.sm_world.specs.declared.effects.Effect.{Effect}
use Rattle.sm_world.specs.declared.effects.Effect.TheVariants.{Sent}
use Rattle.heard_events.specs.Brought.{IsPrefix}
use Rattle.agreement_marks.specs.Agreements.{HasSaved}
use Rattle.checkpoint_records.specs.declared.records.Book.{Book}
use Rattle.client_engine.specs.Driving.{Run}
use Rattle.outer_agent.specs.Script.{Keeper}
use Rattle.session_engine.specs.Carries.{IsCurrent, KeepsItsWord, is_whole, script}
use Rattle.session_engine.specs.Saved.{IsSaved}
use Rattle.session_engine.specs.declared.config.Config.{Config}
use Rattle.session_engine.specs.declared.fault.ServeFault.{ServeFault}
use Rattle.session_model.specs.Moves.{Move, onto}
use Rattle.nested_session.specs.Nesting.{nested}
use Rattle.nested_session.specs.Nests.{IsApart, LastSave, session_of, success}
use Rattle.nested_session.specs.Woven.{Outer, Woven, all_inner, effects_of, shown}

module _ (config : Config) (opening : Book) (file : List ℕ) where
  -- Since the last order to save, a round of all clients began, its book was written and it was agreed; and each file that a crash could
  -- leave now, where the store began with this file, recovers to the last book that was written.
  pub record IsOnDisk (all : List (Woven Effect)) : Type 0 where
    pub save : LastSave all
    pub moves : List Move
    pub since : onto (session_of config opening save.early) moves ≡ session_of config opening all
    pub saved : HasSaved moves
    pub files : (left : List ℕ) → Image file (effects_of all) left → IsCurrent config opening (all_inner all) left

  -- The headline, for a store that began with this file.
  pub record NestKeepsItsWord (agent : Run Keeper) (first : List ℕ) (answer : Result (Unit {0}) ServeFault) (effects : List Effect) : Type 0 where
    pub all : List (Woven Effect)
    pub are : effects_of all ≡ effects
    -- what is on the outer connection is of that alone
    pub apart : AllByRecursion IsApart all
    -- all that is shown is what the machine and the agent's script show, in its order
    pub on_script : IsPrefix (shown all) (nested config opening agent first (heard (effects_of all))).line
    -- the inner session keeps its word
    pub inner : KeepsItsWord config opening file answer (all_inner all)
    -- At each point of both every file that a crash could leave recovers to a whole checkpoint of the inner session, at least as new as the
    -- last one decided before any deed of it that was done.
    pub saved : (front rest : List (Woven Effect)) → front ++ rest ≡ all → (left : List ℕ) → Image file (effects_of front) left → IsSaved opening (script config opening (heard (all_inner front))) (deeds (all_inner front)) left
    -- and to the last one at the end, where no fault cut the run short
    pub is_current : is_whole answer ≡ true → (left : List ℕ) → Image file (effects_of all) left → IsCurrent config opening (all_inner all) left
    -- wherever a success was told, the save was on the disk
    pub told : (front rest : List (Woven Effect)) → front ++ Outer (Sent 0 success) ∷ rest ≡ all → IsOnDisk front
