-- What a list of effects says: what was heard, what was done, and what was published.
use Rattle.std.specs.Prelude.{ℕ, List, [], ◌∷◌}
use Rattle.std.specs.List.{flat_map}
use Rattle.owned_lists.specs.declared.commands.Command.{Command}
use Rattle.sm_world.specs.declared.events.Event.{Event}
use Rattle.sm_world.specs.declared.effects.Effect.{Effect}
use Rattle.sm_world.specs.declared.effects.Effect.TheVariants.{Heard, Sent, Shut, Started, Wrote, Torn, Synced, SyncFailed, Published, Printed}

-- A deed is something that the outside can see. Whether a command could be started is no part of it.
pub data Deed : Type 0 where
  Sends : ℕ → List ℕ → Deed
  Shuts : ℕ → Deed
  Starts : Command → Deed
  Prints : List ℕ → Deed

abbrev pub event_of : Effect → List Event
event_of (Heard event) = event ∷ []
event_of (Sent conn bytes) = []
event_of (Shut conn) = []
event_of (Started command succeeded) = []
event_of (Wrote at bytes) = []
event_of (Torn at length) = []
event_of Synced = []
event_of SyncFailed = []
event_of (Published path bytes) = []
event_of (Printed text) = []

abbrev pub deed_of : Effect → List Deed
deed_of (Heard event) = []
deed_of (Sent conn bytes) = Sends conn bytes ∷ []
deed_of (Shut conn) = Shuts conn ∷ []
deed_of (Started command succeeded) = Starts command ∷ []
deed_of (Wrote at bytes) = []
deed_of (Torn at length) = []
deed_of Synced = []
deed_of SyncFailed = []
deed_of (Published path bytes) = []
deed_of (Printed text) = Prints text ∷ []

-- the files that were replaced: their paths and bytes
abbrev pub file_of : Effect → List (List ℕ × List ℕ)
file_of (Heard event) = []
file_of (Sent conn bytes) = []
file_of (Shut conn) = []
file_of (Started command succeeded) = []
file_of (Wrote at bytes) = []
file_of (Torn at length) = []
file_of Synced = []
file_of SyncFailed = []
file_of (Published path bytes) = (path, bytes) ∷ []
file_of (Printed text) = []

-- the events, in order
abbrev pub heard : List Effect → List Event
heard effects = flat_map event_of effects

-- what the outside could see, in order
abbrev pub deeds : List Effect → List Deed
deeds effects = flat_map deed_of effects

abbrev pub published : List Effect → List (List ℕ × List ℕ)
published effects = flat_map file_of effects
