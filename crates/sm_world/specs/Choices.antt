-- One file that a crash may leave, by a choice of what stands where no sync has been.
use Rattle.std.specs.Prelude.{◌≡◌, ℕ, ◌-◌, ◌<◌, if◌then◌else◌, List, [], ◌∷◌, length, slice_index, Some, None}
use Rattle.sm_world.specs.Crash.{Cell, covers, cell_of}
use Rattle.sm_world.specs.declared.crash.Choice.{Choice}
use Rattle.sm_world.specs.declared.crash.Choice.TheVariants.{AsWritten, AsSynced, Filled}
use Rattle.sm_world.specs.declared.crash.Track.{Track}
use Rattle.sm_world.specs.declared.effects.Effect.{Effect}
use Rattle.sm_world.specs.declared.effects.Effect.TheVariants.{Heard, Sent, Shut, Started, Wrote, Torn, Synced, SyncFailed, Published, Printed}

-- One byte of the file in memory, where a failed write changes none.
pub record Held : Type 0 where
  -- what stands there now
  pub now : ℕ
  -- what stood there at the last sync, or at the beginning where there was none
  pub synced : ℕ

-- the byte at i, one effect later
unfoldable pub held_after : Effect → ℕ → Held → Held
held_after (Heard event) i held = held
held_after (Sent conn bytes) i held = held
held_after (Shut conn) i held = held
held_after (Started command succeeded) i held = held
held_after (Wrote at bytes) i held = if covers at (length bytes) i then record held { now = slice_index bytes (i - at) } else held
held_after (Torn at n) i held = held
held_after Synced i held = record held { synced = held.now }
held_after SyncFailed i held = held
held_after (Published path bytes) i held = held
held_after (Printed text) i held = held

abbrev pub held_from : Held → List Effect → ℕ → Held
held_from held [] i = held
held_from held (effect ∷ effects) i = held_from (held_after effect i held) effects i

-- the byte at i, in a file that began with the bytes `first`
abbrev pub held_of : List ℕ → List Effect → ℕ → Held
held_of first effects i = held_from (record { now = slice_index first i; synced = slice_index first i }) effects i

-- Where any byte is asked for, it stands where a crash may leave it, and elsewhere what the last sync left.
abbrev pub chosen_byte : Choice → Cell → Held → ℕ
chosen_byte AsWritten cell held = held.now
chosen_byte AsSynced cell held = held.synced
chosen_byte (Filled byte) cell held = if cell.left byte then byte else held.synced

-- A crash after these effects leaves this file, by this choice.
pub record IsCrashFile (first : List ℕ) (effects : List Effect) (choice : Choice) (file : List ℕ) : Type 0 where
  pub size : length file ≡ length first
  pub bytes : (i : ℕ) → i < length first → slice_index file i ≡ chosen_byte choice (cell_of first effects i) (held_of first effects i)

-- The track of a byte shows its cell as far as one byte to fill it with is asked for, and what is held there.
pub record IsTracked (fill : ℕ) (cell : Cell) (held : Held) (track : Track) : Type 0 where
  pub now : track.now ≡ held.now
  pub synced : track.synced ≡ held.synced
  pub reads : cell.reads ≡ (if track.any then None else Some track.now)
  pub fills : cell.left fill ≡ track.fills
