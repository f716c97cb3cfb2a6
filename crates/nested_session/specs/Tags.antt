-- What is said to be of the outer connection is all that is on connection 0.
use Rattle.std.specs.Prelude.{◌≡◌, ℕ, false, List, [], ◌∷◌, filter, Option, Result}
use Rattle.std.specs.List.{AllByRecursion, flat_map}
use Rattle.sm_world.specs.declared.effects.Effect.{Effect}
use Rattle.sm_world.specs.declared.events.Event.{Event}
use Rattle.checkpoint_records.specs.declared.records.Book.{Book}
use Rattle.checkpoint_slots.specs.declared.turn.Current.{Current}
use Rattle.client_engine.specs.Driving.{Run}
use Rattle.outer_agent.specs.Script.{Keeper}
use Rattle.session_engine.specs.declared.config.Config.{Config}
use Rattle.session_engine.specs.declared.fault.ServeFault.{ServeFault}
use Rattle.nested_session.specs.Nests.{Nests}
use Rattle.nested_session.specs.Woven.{Inner, Outer, Put, Woven, effects_of, is_of_outer}

-- what the inner session hears and does is on other connections
abbrev pub IsInside : Woven Effect → Type 0
IsInside (Inner effect) = is_of_outer effect ≡ false
IsInside (Outer effect) = Unit {0}
IsInside (Put order) = Unit {0}

abbrev pub outer_of : Woven Effect → List Effect
outer_of (Inner effect) = []
outer_of (Outer effect) = effect ∷ []
outer_of (Put order) = []

-- The inner session hears and does nothing on connection 0: the effects on it are those that are said to be of the outer connection, in
-- their order.
abbrev pub TagsAreTrue : Type 0
TagsAreTrue =
    (config : Config) (opening : Book) (current : Option Current) (coming : Option (List Event)) (turns : ℕ) (agent : Run Keeper) (first : List ℕ) (answer : Result (Unit {0}) ServeFault) (all : List (Woven Effect)) → Nests config opening current coming turns agent first answer all
    → AllByRecursion IsInside all × (filter is_of_outer (effects_of all) ≡ flat_map outer_of all)
