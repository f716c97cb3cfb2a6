-- What a script says.
use Rattle.std.specs.Prelude.{◌≡◌, ◌⊎◌, ℕ, ◌+◌, ◌<◌, ◌≤◌, List, [], ◌∷◌, ◌++◌, length, Option, IfSome}
use Rattle.std.specs.List.{AllByRecursion}
use Rattle.sm_world.specs.declared.events.Event.{Event}
use Rattle.sm_world.specs.declared.events.Event.TheVariants.{Joined, Piece, Gone, Operator, Tick, End}
use Rattle.control_lines.specs.Lines.{lines_of}
use Rattle.control_lines.specs.Script.{Gives, SayAll}
use Rattle.event_script.specs.declared.script.Taken.{Taken}
use Rattle.event_script.specs.declared.script.Taken.TheVariants.{All, WithoutOrders}

-- a line may say this event
abbrev pub IsTaken : Taken → Event → Type 0
IsTaken All event = Unit {0}
IsTaken WithoutOrders (Joined n) = Unit {0}
IsTaken WithoutOrders (Piece n bytes) = Unit {0}
IsTaken WithoutOrders (Gone n) = Unit {0}
IsTaken WithoutOrders (Operator order) = ⊥
IsTaken WithoutOrders (Tick milliseconds) = Unit {0}
IsTaken WithoutOrders End = Unit {0}

-- what a line gives, and may give
abbrev pub GivesTaken : Taken → List ℕ → Option Event → Type 0
GivesTaken taken line given = Gives line given × IfSome given (IsTaken taken)

-- A script says these events: it has at most 16,777,216 bytes, and its lines say them, which they may.
pub record ScriptSays (taken : Taken) (script : List ℕ) (events : List Event) : Type 0 where
  pub within : length script ≤ 16777216
  pub all : SayAll (lines_of script) events
  pub allowed : AllByRecursion (IsTaken taken) events

-- The n-th line, counted from 1, is the first that isn't of the grammar: it is neither skipped nor says an event that it may say, or it is the last of a script that is too long.
pub record IsFirstBad (taken : Taken) (script : List ℕ) (n : ℕ) : Type 0 where
  pub good : List (List ℕ)
  pub events : List Event
  pub line : List ℕ
  pub others : List (List ℕ)
  pub lines : lines_of script ≡ good ++ line ∷ others
  pub number : n ≡ length good + 1
  pub all_good : SayAll good events
  pub allowed : AllByRecursion (IsTaken taken) events
  pub bad : ((given : Option Event) → GivesTaken taken line given → ⊥) ⊎ ((16777216 < length script) × (others ≡ []))
