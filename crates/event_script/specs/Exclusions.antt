-- Of what a script can be, it is one thing.
use Rattle.std.specs.Prelude.{◌≡◌, ℕ, List}
use Rattle.sm_world.specs.declared.events.Event.{Event}
use Rattle.event_script.specs.Script.{ScriptSays, IsFirstBad}
use Rattle.event_script.specs.declared.script.Taken.{Taken}

-- A script says one list of events or has one first bad line.
pub record MeansOnce (taken : Taken) (bytes : List ℕ) : Type 0 where
  pub one_script : (events others : List Event) → ScriptSays taken bytes events → ScriptSays taken bytes others → events ≡ others
  pub one_bad_line : (n k : ℕ) → IsFirstBad taken bytes n → IsFirstBad taken bytes k → n ≡ k
  pub said_or_bad : (events : List Event) (n : ℕ) → ScriptSays taken bytes events → IsFirstBad taken bytes n → ⊥
