-- Reading the fields of a command one by one.
use Rattle.std.specs.Prelude.{ℕ, ◌↔◌, List, ◌∷◌, Option, Some, None}
use Rattle.trace_replay.specs.Commands.{GoOn}
use Rattle.trace_replay.specs.declared.commands.Place.{Place}

-- A field leads from one place to another: what goes on there is what goes on here behind the field. It leads nowhere where nothing does.
abbrev pub LeadsTo : Place → List ℕ → Option Place → Type 0
LeadsTo place field (Some next) = (fields : List (List ℕ)) → GoOn place (field ∷ fields) ↔ GoOn next fields
LeadsTo place field None = (fields : List (List ℕ)) → GoOn place (field ∷ fields) → ⊥
