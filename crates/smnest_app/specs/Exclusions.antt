-- Of the facts that the statuses state of a script, at most one holds; and words mean one task at most.
use Rattle.std.specs.Prelude.{◌≡◌, ℕ, List}
use Rattle.sm_world.specs.declared.events.Event.{Event}
use Rattle.event_script.specs.Exclusions.{MeansOnce}
use Rattle.event_script.specs.declared.script.Taken.TheVariants.{All}
use Rattle.smnest_app.specs.Rehearsals.{Finishes, Outlasts}
use Rattle.smnest_app.specs.Words.{Means, Task}

-- A script says one list of events or has one first bad line, and its run either comes to its end within the turns or outlasts them.
pub record FitsOnce (id : List ℕ) (words : List (List ℕ)) (bytes : List ℕ) (turns : ℕ) : Type 0 where
  pub once : MeansOnce All bytes
  pub ended_or_spent : (events others : List Event) → Finishes id words bytes turns events → Outlasts id words bytes turns others → ⊥

-- Words mean one task at most.
abbrev pub WordsMeanOne : Type 0
WordsMeanOne = (words : List (List ℕ)) (one two : Task) → Means words one → Means words two → one ≡ two
