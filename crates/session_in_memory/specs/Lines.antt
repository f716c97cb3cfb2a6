-- The lines of a run: one for each event that came, and one for each deed about it.
use Rattle.std.specs.Prelude.{ℕ, List, [], ◌∷◌, true, map, Option, Some, None}
use Rattle.std.specs.List.{flat_map}
use Rattle.sm_world.specs.Effects.{Deed, Sends, Shuts, Starts, Prints}
use Rattle.sm_world.specs.declared.effects.Effect.{Effect}
use Rattle.sm_world.specs.declared.effects.Effect.TheVariants.{Heard, Sent, Shut, Started, Printed}
use Rattle.session_engine.specs.Machine.{Item, Came, Did}
use Rattle.control_lines.specs.Traces.{effect_text, effects_text}

-- A command is shown as started.
abbrev pub deed_effect : Deed → Effect
deed_effect (Sends n bytes) = Sent n bytes
deed_effect (Shuts n) = Shut n
deed_effect (Starts command) = Started command true
deed_effect (Prints printed) = Printed printed

-- the effect as which what a run shows is seen
abbrev pub effect_of : Item → Effect
effect_of (Came event) = Heard event
effect_of (Did deed) = deed_effect deed

-- the text of a run, line by line
abbrev pub text : List Item → List ℕ
text shown = effects_text (map effect_of shown)

-- the lines of what has a line or none
abbrev pub lines_by : Option (List ℕ) → List (List ℕ)
lines_by None = []
lines_by (Some line) = line ∷ []

-- the lines of that text, without their newlines
abbrev pub run_lines : List Item → List (List ℕ)
run_lines shown = flat_map (λ effect. lines_by (effect_text effect)) (map effect_of shown)
