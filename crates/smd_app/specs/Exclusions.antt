-- Of the facts that the statuses state of a script, at most one holds.
use Rattle.std.specs.Prelude.{◌≡◌, ℕ, List}
use Rattle.sm_world.specs.declared.events.Event.{Event}
use Rattle.smd_app.specs.Script.{ScriptSays, IsFirstBad}
use Rattle.smd_app.specs.Rehearsals.{Finishes, Outlasts}

-- A script says one list of events or has one first bad line, and its run either comes to its end within the turns or outlasts them.
pub record FitsOnce (patience : ℕ) (bytes : List ℕ) (turns : ℕ) : Type 0 where
  pub one_script : (events others : List Event) → ScriptSays bytes events → ScriptSays bytes others → events ≡ others
  pub one_bad_line : (n k : ℕ) → IsFirstBad bytes n → IsFirstBad bytes k → n ≡ k
  pub said_or_bad : (events : List Event) (n : ℕ) → ScriptSays bytes events → IsFirstBad bytes n → ⊥
  pub ended_or_spent : (events others : List Event) → Finishes patience bytes turns events → Outlasts patience bytes turns others → ⊥
