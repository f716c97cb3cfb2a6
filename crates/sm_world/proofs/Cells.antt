-- How the cells of a byte go from effect to effect.
use Rattle.std.proofs.Common.{◌≡◌, ℕ, ◌-◌, ◌<◌, ◌⊎◌, true, false, List, [], ◌∷◌, ◌++◌, length, slice_index, refl, ap, sym, ◌∙◌, arith}
use Rattle.sm_world.specs.Crash.{Cell, Image, LeavesStore, OthersKeepCells, SameCells, SameCellsSameImages, covers, written, torn, cell_after, cell_from, cell_of}
use Rattle.sm_world.specs.declared.effects.Effect.{Effect}
use Rattle.sm_world.specs.declared.effects.Effect.TheVariants.{Heard, Sent, Shut, Started, Wrote, Torn, Synced, SyncFailed, Published, Printed}

pub cell_from-append : (cell : Cell) (effects added : List Effect) (i : ℕ) → cell_from cell (effects ++ added) i ≡ cell_from (cell_from cell effects i) added i
cell_from-append cell [] added i = refl
cell_from-append cell (effect ∷ effects) added i = cell_from-append (cell_after effect i cell) effects added i

-- the cell after one effect more
pub cell_of-more : (first : List ℕ) (effects : List Effect) (effect : Effect) (i : ℕ) → cell_of first (effects ++ effect ∷ []) i ≡ cell_after effect i (cell_of first effects i)
cell_of-more first effects effect i = cell_from-append _ effects (effect ∷ []) i

-- a byte lies in a range or outside
pub place : (at n i : ℕ) → (covers at n i ≡ true) ⊎ (covers at n i ≡ false)
place at n i = grind arith

pub wrote_inside : (at : ℕ) (bytes : List ℕ) (i : ℕ) (cell : Cell) → covers at (length bytes) i ≡ true → cell_after (Wrote at bytes) i cell ≡ written (length bytes) (slice_index bytes (i - at)) cell
unfolding cell_after
wrote_inside at bytes i cell inside = rw inside refl

pub wrote_outside : (at : ℕ) (bytes : List ℕ) (i : ℕ) (cell : Cell) → covers at (length bytes) i ≡ false → cell_after (Wrote at bytes) i cell ≡ cell
unfolding cell_after
wrote_outside at bytes i cell outside = rw outside refl

pub torn_inside : (at n i : ℕ) (cell : Cell) → covers at n i ≡ true → cell_after (Torn at n) i cell ≡ torn n cell
unfolding cell_after
torn_inside at n i cell inside = rw inside refl

pub torn_outside : (at n i : ℕ) (cell : Cell) → covers at n i ≡ false → cell_after (Torn at n) i cell ≡ cell
unfolding cell_after
torn_outside at n i cell outside = rw outside refl

pub others_keep : (effect : Effect) (i : ℕ) (cell : Cell) → LeavesStore effect → cell_after effect i cell ≡ cell
unfolding cell_after
others_keep (Heard event) i cell leaves = refl
others_keep (Sent conn bytes) i cell leaves = refl
others_keep (Shut conn) i cell leaves = refl
others_keep (Started command succeeded) i cell leaves = refl
others_keep (Wrote at bytes) i cell leaves = absurd leaves
others_keep (Torn at n) i cell leaves = absurd leaves
others_keep Synced i cell leaves = absurd leaves
others_keep SyncFailed i cell leaves = refl
others_keep (Published path bytes) i cell leaves = refl
others_keep (Printed text) i cell leaves = refl

pub quiet_cells : OthersKeepCells
quiet_cells first effects effect leaves =
    let same : (i : ℕ) → cell_of first (effects ++ effect ∷ []) i ≡ cell_of first effects i = λ i. cell_of-more first effects effect i ∙ others_keep effect i (cell_of first effects i) leaves in
    record { size = refl; reads = λ i within. ap (λ (cell : Cell). cell.reads) (same i); left = λ i byte within. ap (λ (cell : Cell). cell.left byte) (same i) }

left_by : {first other : List ℕ} {effects others : List Effect} → SameCells first effects other others → (file : List ℕ) → Image first effects file → Image other others file
left_by {first = first} same file image = record {
  size = image.size ∙ same.size;
  bytes = λ i within.
      let inside : i < length first = rw same.size within in
      sym (same.left i (slice_index file i) inside) ∙ image.bytes i inside;
}

pub same_images : SameCellsSameImages
same_images first effects other others same file = (
  left_by same file,
  left_by (record { size = sym same.size; reads = λ i within. sym (same.reads i (rw same.size within)); left = λ i byte within. sym (same.left i byte (rw same.size within)) }) file,
)
