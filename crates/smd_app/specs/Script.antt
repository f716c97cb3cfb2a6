-- What a script says.
use Rattle.std.specs.Prelude.{◌≡◌, ◌⊎◌, ℕ, ◌+◌, ◌<◌, ◌≤◌, List, [], ◌∷◌, ◌++◌, length, Option}
use Rattle.sm_world.specs.declared.events.Event.{Event}
use Rattle.control_lines.specs.Lines.{lines_of}
use Rattle.control_lines.specs.Script.{Gives, SayAll}

-- A script says these events: it has at most 16,777,216 bytes, and its lines say them.
pub record ScriptSays (script : List ℕ) (events : List Event) : Type 0 where
  pub within : length script ≤ 16777216
  pub all : SayAll (lines_of script) events

-- The n-th line, counted from 1, is the first that isn't of the grammar: it is neither skipped nor says an event, or it is the last of a script that is too long.
pub record IsFirstBad (script : List ℕ) (n : ℕ) : Type 0 where
  pub good : List (List ℕ)
  pub events : List Event
  pub line : List ℕ
  pub others : List (List ℕ)
  pub lines : lines_of script ≡ good ++ line ∷ others
  pub number : n ≡ length good + 1
  pub all_good : SayAll good events
  pub bad : ((given : Option Event) → Gives line given → ⊥) ⊎ ((16777216 < length script) × (others ≡ []))
