-- A rehearsal: a script's events, and then End, are relayed on a world in memory.
use Rattle.std.specs.Prelude.{◌≡◌, ℕ, ◌<◌, ◌≤◌, true, false, List, [], ◌∷◌, ◌++◌, length, take, Some}
use Rattle.sm_world.specs.Worlds.{steady_outside}
use Rattle.sm_world.specs.declared.effects.Effect.{Effect}
use Rattle.sm_world.specs.declared.events.Event.{Event}
use Rattle.sm_world.specs.declared.events.Event.TheVariants.{End}
use Rattle.control_lines.specs.Traces.{effects_text}
use Rattle.ice_values.specs.declared.numbers.Endian.{Endian}
use Rattle.byte_relay.specs.Relaying.{run}
use Rattle.event_script.specs.Script.{ScriptSays}
use Rattle.event_script.specs.declared.script.Taken.TheVariants.{WithoutOrders}
use Rattle.program_frame.specs.Input.{front}
use Rattle.smrelay_app.specs.declared.rehearsal.Rehearsal.{Rehearsal}

-- what is read as the script: of one that is too long, one byte more than it can have
abbrev pub script_of : List ℕ → List ℕ
script_of input = front (16777217) input

-- all that a script brings: its events, and then End
abbrev pub with_end : List Event → List Event
with_end events = events ++ End ∷ []

-- The script was read to its end, and End was heard within the turns.
pub record Finishes (bytes : List ℕ) (turns : ℕ) (events : List Event) : Type 0 where
  pub says : ScriptSays WithoutOrders bytes events
  pub within : length events < turns

-- The script was read to its end, and as many of its events were heard as there were turns.
pub record Outlasts (bytes : List ℕ) (turns : ℕ) (events : List Event) : Type 0 where
  pub says : ScriptSays WithoutOrders bytes events
  pub heard : turns ≤ length events

-- the lines of the whole run
abbrev pub whole_trace : Endian → List Event → List ℕ
whole_trace to events = effects_text (run to (with_end events))

-- the lines for the first events, as many as there were turns
abbrev pub first_trace : Endian → ℕ → List Event → List ℕ
first_trace to turns events = effects_text (run to (take turns events))

-- whether End was heard, and all the effects of the world behind the run
pub record Rehearses (to : Endian) (events : List Event) (turns : ℕ) (rehearsal : Rehearsal) : Type 0 where
  pub effects : List Effect
  pub told : (steady_outside rehearsal.world).told ≡ Some effects
  pub whole : rehearsal.finished ≡ true → (length events < turns) × (effects ≡ run to (with_end events))
  pub cut : rehearsal.finished ≡ false → (turns ≤ length events) × (effects ≡ run to (take turns events))
