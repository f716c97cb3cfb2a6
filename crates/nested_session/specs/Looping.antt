-- Where a nest stands between two events of a run, and what an event makes of that run.
use Rattle.std.specs.Prelude.{◌≡◌, ◌+◌, ℕ, List, Option, Result, Ok, Err, length}
use Rattle.sm_world.specs.Effects.{heard}
use Rattle.sm_world.specs.Outside.{Outside}
use Rattle.sm_world.specs.declared.effects.Effect.{Effect}
use Rattle.sm_world.specs.declared.events.Event.{Event}
use Rattle.heard_events.specs.Brought.{BroughtSoFar}
use Rattle.checkpoint_records.specs.declared.records.Book.{Book}
use Rattle.checkpoint_slots.specs.declared.turn.Current.{Current}
use Rattle.client_engine.specs.Driving.{Run}
use Rattle.outer_agent.specs.Script.{Keeper}
use Rattle.session_engine.specs.Carries.{Opens}
use Rattle.session_engine.specs.declared.config.Config.{Config}
use Rattle.session_engine.specs.declared.fault.ServeFault.{ServeFault}
use Rattle.nested_session.specs.Nesting.{nested}
use Rattle.nested_session.specs.Serving.{Nesting}
use Rattle.nested_session.specs.Standing.{GoesOn}
use Rattle.nested_session.specs.Woven.{Woven, effects_of}
use Rattle.nested_session.specs.declared.nest.Answered.{Answered}
use Rattle.nested_session.specs.declared.nest.Answered.TheVariants.{Finished, Goes}
use Rattle.nested_session.specs.declared.nest.Nest.{Nest}

-- A session with this configuration opened this book, and added these effects: so many events were heard among them, they are those
-- that were to come, and the nest stands where the script does behind them.
pub record Holds (config : Config) (agent : Run Keeper) (first : List ℕ) (coming left : Option (List Event)) (base told : Option (List Effect)) (n : ℕ) (nest : Nest) (opening : Book) (current : Option Current) (effects : List Effect) : Type 0 where
  pub all : List (Woven Effect)
  pub are : effects_of all ≡ effects
  pub goes : GoesOn config opening current base (heard effects) told nest (nested config opening agent first (heard effects)).next (nested config opening agent first (heard effects)).line all
  pub count : length (heard effects) ≡ n
  pub brought : BroughtSoFar coming left (heard effects)

-- the run goes on behind so many events
abbrev pub InLoop : Config → Run Keeper → List ℕ → Outside → Outside → ℕ → Nest → Type 0
InLoop config agent first old now count nest = Opens config.session old now (Holds config agent first old.coming now.coming old.told now.told count nest)

-- the run began, and goes on with nothing heard, or it came to its end as it began
abbrev pub Begins : Config → ℕ → Run Keeper → List ℕ → Outside → Outside → Result Nest ServeFault → Type 0
Begins config turns agent first old now (Ok nest) = InLoop config agent first old now 0 nest
Begins config turns agent first old now (Err fault) = Nesting config turns agent first old now (Err fault)

-- behind so many events one more was heard: the run goes on, or came to its end
abbrev pub GoesFurther : Config → ℕ → Run Keeper → List ℕ → Outside → Outside → ℕ → Result Answered ServeFault → Type 0
GoesFurther config turns agent first old now count (Ok (Goes next)) = InLoop config agent first old now (count + 1) next
GoesFurther config turns agent first old now count (Ok Finished) = Nesting config turns agent first old now (Ok tt)
GoesFurther config turns agent first old now count (Err fault) = Nesting config turns agent first old now (Err fault)
