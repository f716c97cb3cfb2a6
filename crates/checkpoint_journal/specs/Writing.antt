-- What a call of the journal writes.
use Rattle.std.specs.Prelude.{Err, List, Ok, Result, [], length, ℕ, ◌+◌, ◌≡◌, ◌≢◌, ◌∷◌, ◌⊎◌}
use Rattle.sm_world.specs.declared.effects.Effect.{Effect}
use Rattle.sm_world.specs.declared.effects.Effect.TheVariants.{Heard, Printed, Published, Sent, Shut, Started, SyncFailed, Synced, Torn, Wrote}
use Rattle.checkpoint_slots.specs.Turns.{IsPut}

-- All of these puts, each at its place: one write and one sync for each, in this order.
abbrev pub all_put : List (ℕ × List ℕ) → List Effect
all_put [] = []
all_put (put ∷ puts) = Wrote put.0 put.1 ∷ Synced ∷ all_put puts

-- The puts as far as they came, and not all of them. None begins before those in front of it were done.
abbrev pub AreCut : List (ℕ × List ℕ) → List Effect → Type 0
AreCut [] added = ⊥
AreCut (put ∷ puts) added = (IsPut put.0 put.1 added × (added ≢ Wrote put.0 put.1 ∷ Synced ∷ [])) ⊎ ((more : List Effect) × AreCut puts more × (added ≡ Wrote put.0 put.1 ∷ Synced ∷ more))

-- at Ok all of the puts, and else not all
abbrev pub PutsAll : {A E : Type 0} → List (ℕ × List ℕ) → Result A E → List Effect → Type 0
PutsAll puts (Ok x) added = added ≡ all_put puts
PutsAll puts (Err e) added = AreCut puts added

abbrev pub bytes_by : Effect → ℕ
bytes_by (Heard event) = 0
bytes_by (Sent conn bytes) = 0
bytes_by (Shut conn) = 0
bytes_by (Started command succeeded) = 0
bytes_by (Wrote at bytes) = length bytes
bytes_by (Torn at n) = n
bytes_by Synced = 0
bytes_by SyncFailed = 0
bytes_by (Published path bytes) = 0
bytes_by (Printed text) = 0

-- how many bytes of the store's file were written, or torn
abbrev pub bytes_in : List Effect → ℕ
bytes_in [] = 0
bytes_in (effect ∷ effects) = bytes_by effect + bytes_in effects
