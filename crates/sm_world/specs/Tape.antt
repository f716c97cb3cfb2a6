-- What a world in memory keeps of its outside.
use Rattle.std.specs.Prelude.{◌≡◌, ◌<◌, ℕ, IsTrue, List, length, slice_index}
use Rattle.sm_world.specs.Crash.{cell_of, readable}
use Rattle.sm_world.specs.declared.effects.Effect.{Effect}
use Rattle.sm_world.specs.declared.effects.Effect.TheVariants.{Heard, Sent, Shut, Started, Wrote, Torn, Synced, SyncFailed, Published, Printed}
use Rattle.sm_world.specs.declared.events.Event.{Event}

pub record Recorded : Type 0 where
  -- the effects so far
  pub effects : List Effect
  -- the events to come
  pub coming : List Event
  -- what is left of the console's input
  pub input : List ℕ
  -- the bytes with which the store began, and those that it has now
  pub first : List ℕ
  pub file : List ℕ

-- The file is as long as it was, and what it holds may be read.
pub record IsHeld (first : List ℕ) (effects : List Effect) (file : List ℕ) : Type 0 where
  pub size : length file ≡ length first
  pub bytes : (i : ℕ) → i < length first → IsTrue (readable (cell_of first effects i).reads (slice_index file i))

-- The effect writes no bytes to the store.
abbrev pub KeepsBytes : Effect → Type 0
KeepsBytes (Heard event) = Unit {0}
KeepsBytes (Sent conn bytes) = Unit {0}
KeepsBytes (Shut conn) = Unit {0}
KeepsBytes (Started command succeeded) = Unit {0}
KeepsBytes (Wrote at bytes) = ⊥
KeepsBytes (Torn at n) = Unit {0}
KeepsBytes Synced = Unit {0}
KeepsBytes SyncFailed = Unit {0}
KeepsBytes (Published path bytes) = Unit {0}
KeepsBytes (Printed text) = Unit {0}
