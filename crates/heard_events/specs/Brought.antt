-- What a run was brought of the events to come.
use Rattle.std.specs.Prelude.{◌≡◌, ℕ, zero, suc, List, [], ◌∷◌, ◌++◌, length, drop, Option, Some, None}
use Rattle.sm_world.specs.Events.{next_of}
use Rattle.sm_world.specs.declared.events.Event.{Event}

abbrev pub IsPrefix : {A : Type 0} → List A → List A → Type 0
IsPrefix {A} xs ys = (rest : List A) × (xs ++ rest ≡ ys)

-- the first n of the events to come, and End for each that isn't there
abbrev pub next_events : ℕ → List Event → List Event
next_events zero coming = []
next_events (suc n) coming = next_of coming ∷ next_events n (drop 1 coming)

-- what was heard is the first of the events to come, where these are told
abbrev pub Brought : Option (List Event) → List Event → Type 0
Brought None events = Unit {0}
Brought (Some coming) events = events ≡ next_events (length events) coming

-- these events are the first of those to come, and the others are left
abbrev pub BroughtSoFar : Option (List Event) → Option (List Event) → List Event → Type 0
BroughtSoFar None left events = left ≡ None
BroughtSoFar (Some coming) left events = (events ≡ next_events (length events) coming) × (left ≡ Some (drop (length events) coming))
