-- What a crash may leave of the store's file, by the effects so far: two lists with one cell a byte, given here as one cell for each index. Between two syncs a range of two or more bytes that was written or torn may hold any bytes after a crash. A write of one byte is whole or absent. After a sync a crash leaves what was written.
use Rattle.std.specs.Prelude.{◌≡◌, ◌↔◌, ℕ, ◌+◌, ◌-◌, ◌<◌, Bool, true, ◌||◌, ◌&&◌, IsTrue, ◌==◌, nat_le, nat_lt, if◌then◌else◌, List, [], ◌∷◌, ◌++◌, length, slice_index, Option, Some, None}
use Rattle.sm_world.specs.declared.effects.Effect.{Effect}
use Rattle.sm_world.specs.declared.effects.Effect.TheVariants.{Heard, Sent, Shut, Started, Wrote, Torn, Synced, SyncFailed, Published, Printed}

-- One byte of the file.
pub record Cell : Type 0 where
  -- what a read gives, where None is any byte
  pub reads : Option ℕ
  -- which bytes a crash may leave
  pub left : ℕ → Bool

-- The byte at i is one of the n from `at` on.
abbrev pub covers : ℕ → ℕ → ℕ → Bool
covers at n i = nat_le at i && nat_lt i (at + n)

-- a read may give this byte
abbrev pub readable : Option ℕ → ℕ → Bool
readable None byte = true
readable (Some held) byte = byte == held

-- The cell of a byte that was written among n. Where they are two or more, a crash may leave any byte.
abbrev pub written : ℕ → ℕ → Cell → Cell
written n byte cell = record { reads = Some byte; left = λ b. nat_le 2 n || (cell.left b || (b == byte)) }

-- The cell of a byte in a range of n that a failed write may have changed in any way.
abbrev pub torn : ℕ → Cell → Cell
torn n cell = record { reads = None; left = λ b. nat_le 2 n || cell.left b }

-- A crash leaves what may be read.
abbrev pub synced : Cell → Cell
synced cell = record { reads = cell.reads; left = readable cell.reads }

-- the cell of the byte at i, one effect later
unfoldable pub cell_after : Effect → ℕ → Cell → Cell
cell_after (Heard event) i cell = cell
cell_after (Sent conn bytes) i cell = cell
cell_after (Shut conn) i cell = cell
cell_after (Started command succeeded) i cell = cell
cell_after (Wrote at bytes) i cell = if covers at (length bytes) i then written (length bytes) (slice_index bytes (i - at)) cell else cell
cell_after (Torn at n) i cell = if covers at n i then torn n cell else cell
cell_after Synced i cell = synced cell
cell_after SyncFailed i cell = cell
cell_after (Published path bytes) i cell = cell
cell_after (Printed text) i cell = cell

-- the cell after a list of effects, the oldest first
abbrev pub cell_from : Cell → List Effect → ℕ → Cell
cell_from cell [] i = cell
cell_from cell (effect ∷ effects) i = cell_from (cell_after effect i cell) effects i

-- the cell of a byte that is on the disk
abbrev pub settled : ℕ → Cell
settled byte = record { reads = Some byte; left = λ b. b == byte }

-- the cell of the byte at i, in a file that began with the bytes `first`
abbrev pub cell_of : List ℕ → List Effect → ℕ → Cell
cell_of first effects i = cell_from (settled (slice_index first i)) effects i

-- A crash after these effects may leave this file.
pub record Image (first : List ℕ) (effects : List Effect) (file : List ℕ) : Type 0 where
  pub size : length file ≡ length first
  pub bytes : (i : ℕ) → i < length first → IsTrue ((cell_of first effects i).left (slice_index file i))

-- These bytes may be read at this place.
abbrev pub MayBeRead : List ℕ → List Effect → ℕ → List ℕ → Type 0
MayBeRead first effects at bytes = (i : ℕ) → i < length bytes → IsTrue (readable (cell_of first effects (at + i)).reads (slice_index bytes i))

-- The effect neither writes to the store nor syncs it.
abbrev pub LeavesStore : Effect → Type 0
LeavesStore (Heard event) = Unit {0}
LeavesStore (Sent conn bytes) = Unit {0}
LeavesStore (Shut conn) = Unit {0}
LeavesStore (Started command succeeded) = Unit {0}
LeavesStore (Wrote at bytes) = ⊥
LeavesStore (Torn at n) = ⊥
LeavesStore Synced = ⊥
LeavesStore SyncFailed = Unit {0}
LeavesStore (Published path bytes) = Unit {0}
LeavesStore (Printed text) = Unit {0}

-- Two beginnings with their effects give the same two lists.
pub record SameCells (first : List ℕ) (effects : List Effect) (other : List ℕ) (others : List Effect) : Type 0 where
  pub size : length first ≡ length other
  pub reads : (i : ℕ) → i < length first → (cell_of first effects i).reads ≡ (cell_of other others i).reads
  pub left : (i byte : ℕ) → i < length first → (cell_of first effects i).left byte ≡ (cell_of other others i).left byte

abbrev pub OthersKeepCells : Type 0
OthersKeepCells = (first : List ℕ) (effects : List Effect) (effect : Effect) → LeavesStore effect → SameCells first (effects ++ effect ∷ []) first effects

abbrev pub SameCellsSameImages : Type 0
SameCellsSameImages = (first : List ℕ) (effects : List Effect) (other : List ℕ) (others : List Effect) → SameCells first effects other others → (file : List ℕ) → Image first effects file ↔ Image other others file
