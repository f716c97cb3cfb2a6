-- A rehearsal: a script's events, and then End, are run as a session inside another on a world in memory, whose store has no book yet. What comes on the connection 0 is the outer manager's.
use Rattle.std.specs.Prelude.{◌≡◌, ℕ, ◌≤◌, Bool, true, false, List, [], ◌∷◌, take, length, Some}
use Rattle.std.specs.List.{flat_map}
use Rattle.sm_world.specs.Worlds.{steady_outside}
use Rattle.sm_world.specs.declared.effects.Effect.{Effect}
use Rattle.sm_world.specs.declared.events.Event.{Event}
use Rattle.checkpoint_records.specs.Books.{empty_book}
use Rattle.client_engine.specs.Driving.{Run}
use Rattle.client_engine.specs.Messages.{spelled}
use Rattle.event_script.specs.Script.{ScriptSays}
use Rattle.event_script.specs.declared.script.Taken.TheVariants.{All}
use Rattle.ice_messages.specs.declared.message.IceMessage.TheVariants.{ByteOrder}
use Rattle.ice_values.specs.declared.numbers.Endian.TheVariants.{Lsb}
use Rattle.nested_session.specs.Nesting.{Shows, nested}
use Rattle.nested_session.specs.Woven.{Inner, Outer, Put, Woven}
use Rattle.outer_agent.specs.Script.{Keeper, start}
use Rattle.protocol_messages.specs.declared.message.Message.TheVariants.{Ice}
use Rattle.session_engine.specs.Doing.{items}
use Rattle.session_engine.specs.Machine.{Item}
use Rattle.session_in_memory.specs.Lines.{text}
use Rattle.session_in_memory.specs.Stores.{rehearsal_cookie}
use Rattle.smd_app.specs.Rehearsals.{rehearsal_config, with_end}
use Rattle.smd_app.specs.declared.rehearsal.Rehearsal.{Rehearsal}

-- what an agent says at once
abbrev pub greeting : List ℕ
greeting = spelled (Ice (ByteOrder Lsb))

-- the agent of a rehearsal with this ID, or an empty one, and these words
abbrev pub rehearsal_agent : List ℕ → List (List ℕ) → Run Keeper
rehearsal_agent id words = start rehearsal_cookie id words

-- What of a session inside another is seen outside: an order that is put isn't.
abbrev pub seen_of : Woven Item → List Item
seen_of (Inner item) = item ∷ []
seen_of (Outer item) = item ∷ []
seen_of (Put order) = []

abbrev pub seen : List (Woven Item) → List Item
seen all = flat_map seen_of all

module _ (id : List ℕ) (words : List (List ℕ)) where
  -- all that is shown for these events
  abbrev pub shows : List Event → Shows
  shows events = nested (rehearsal_config 0) empty_book (rehearsal_agent id words) greeting events

  -- one of the first so many events ends the run
  abbrev pub ends_within : ℕ → List Event → Bool
  ends_within turns events = (shows (take turns (with_end events))).next.finished

  -- The script was read to its end, and its run came to its own end within the turns.
  pub record Finishes (bytes : List ℕ) (turns : ℕ) (events : List Event) : Type 0 where
    pub says : ScriptSays All bytes events
    pub ended : ends_within turns events ≡ true

  -- The script was read to its end, as many events were heard as there were turns, and none ended the run.
  pub record Outlasts (bytes : List ℕ) (turns : ℕ) (events : List Event) : Type 0 where
    pub says : ScriptSays All bytes events
    pub heard : turns ≤ length events
    pub unended : ends_within turns events ≡ false

  -- what the whole run shows, and what the first events show, as many as there were turns
  abbrev pub whole_run : List Event → List Item
  whole_run events = seen (shows (with_end events)).line

  abbrev pub first_run : ℕ → List Event → List Item
  first_run turns events = seen (shows (take turns events)).line

  -- the lines of the whole run
  abbrev pub whole_trace : List Event → List ℕ
  whole_trace events = text (whole_run events)

  -- the lines for the first events
  abbrev pub first_trace : ℕ → List Event → List ℕ
  first_trace turns events = text (first_run turns events)

  -- whether the run came to its end, and what the effects show that were added to a new world
  pub record Rehearses (events : List Event) (turns : ℕ) (rehearsal : Rehearsal) : Type 0 where
    pub effects : List Effect
    pub told : (steady_outside rehearsal.world).told ≡ Some effects
    pub ended : rehearsal.finished ≡ ends_within turns events
    pub whole : rehearsal.finished ≡ true → items effects ≡ whole_run events
    pub cut : rehearsal.finished ≡ false → (turns ≤ length events) × (items effects ≡ first_run turns events)
