-- What a call of `serve_nested` adds to a world.
use Rattle.std.specs.Prelude.{◌≡◌, ℕ, List, Option, Result, Ok, Err}
use Rattle.sm_world.specs.Outside.{Outside}
use Rattle.sm_world.specs.declared.effects.Effect.{Effect}
use Rattle.checkpoint_records.specs.declared.records.Book.{Book}
use Rattle.checkpoint_slots.specs.declared.turn.Current.{Current}
use Rattle.client_engine.specs.Driving.{Run}
use Rattle.outer_agent.specs.Script.{Keeper}
use Rattle.outer_agent.specs.Standing.{Stand}
use Rattle.session_engine.specs.Carries.{FailsOr, Opens}
use Rattle.session_engine.specs.declared.config.Config.{Config}
use Rattle.session_engine.specs.declared.fault.ServeFault.{ServeFault}
use Rattle.nested_session.specs.Nests.{Nests}
use Rattle.nested_session.specs.Woven.{Woven, effects_of}

-- the run of an agent that stands so
abbrev pub run_of : Stand → Run Keeper
run_of stand = record { standing = stand.splitter; keeper = stand.keeper }

-- These effects were woven of a session and its outer connection.
pub record Weaves (config : Config) (turns : ℕ) (agent : Run Keeper) (first : List ℕ) (old : Outside) (answer : Result (Unit {0}) ServeFault) (opening : Book) (current : Option Current) (effects : List Effect) : Type 0 where
  pub all : List (Woven Effect)
  pub are : effects_of all ≡ effects
  pub nests : Nests config opening current old.coming turns agent first answer all

-- a run over the recovered book; or nothing was done
abbrev pub Nesting : Config → ℕ → Run Keeper → List ℕ → Outside → Outside → Result (Unit {0}) ServeFault → Type 0
Nesting config turns agent first old new (Ok x) = Opens config.session old new (Weaves config turns agent first old (Ok x))
Nesting config turns agent first old new (Err fault) = FailsOr config.session old new (Weaves config turns agent first old (Err fault)) fault
