-- A session and the connection to an outer manager in one line, in the order of what happened.
use Rattle.std.specs.Prelude.{◌==◌, Bool, false, List, [], ◌∷◌, map}
use Rattle.std.specs.List.{flat_map}
use Rattle.sm_world.specs.declared.effects.Effect.{Effect}
use Rattle.sm_world.specs.declared.effects.Effect.TheVariants.{Heard, Sent, Shut}
use Rattle.sm_world.specs.declared.events.Event.{Event}
use Rattle.sm_world.specs.declared.events.Event.TheVariants.{Gone, Joined, Operator, Piece}
use Rattle.sm_world.specs.declared.events.Order.{Order}
use Rattle.session_engine.specs.Doing.{item_of}
use Rattle.session_engine.specs.Machine.{Item}

-- A thing of the inner session, one of the outer connection, or an order of the outer manager's that is put to the inner session.
pub data Woven (A : Type 0) : Type 0 where
  Inner : A → Woven A
  Outer : A → Woven A
  Put : Order → Woven A

-- ---- of effects

-- what the world shows
abbrev pub effect_of : Woven Effect → List Effect
effect_of (Inner effect) = effect ∷ []
effect_of (Outer effect) = effect ∷ []
effect_of (Put order) = []

abbrev pub effects_of : List (Woven Effect) → List Effect
effects_of all = flat_map effect_of all

-- what the inner session is: it hears an order that is put as one of its operator's
abbrev pub inner_of : Woven Effect → List Effect
inner_of (Inner effect) = effect ∷ []
inner_of (Outer effect) = []
inner_of (Put order) = Heard (Operator order) ∷ []

abbrev pub all_inner : List (Woven Effect) → List Effect
all_inner all = flat_map inner_of all

-- an event of the outer connection, which has the number 0
abbrev pub is_outer : Event → Bool
is_outer (Joined conn) = conn == 0
is_outer (Piece conn bytes) = conn == 0
is_outer (Gone conn) = conn == 0
is_outer event = false

-- an effect of the outer connection: something was heard or sent on it, or it was shut
abbrev pub is_of_outer : Effect → Bool
is_of_outer (Heard event) = is_outer event
is_of_outer (Sent conn bytes) = conn == 0
is_of_outer (Shut conn) = conn == 0
is_of_outer effect = false

-- ---- what of them is shown, as events, deeds and orders

abbrev pub shown_of : Woven Effect → List (Woven Item)
shown_of (Inner effect) = map Inner (item_of effect)
shown_of (Outer effect) = map Outer (item_of effect)
shown_of (Put order) = Put order ∷ []

abbrev pub shown : List (Woven Effect) → List (Woven Item)
shown all = flat_map shown_of all
