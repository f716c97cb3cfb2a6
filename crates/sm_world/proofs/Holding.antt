-- What the store holds may be read, whatever is done.
use Rattle.std.proofs.Common.{◌≡◌, ℕ, ◌+◌, ◌-◌, ◌≤◌, Some, IsTrue, List, [], ◌∷◌, ◌++◌, length, take, drop, slice_index, refl, sym, subst, ◌∙◌, arith, inl, inr}
use Rattle.std.proofs.lemmas.List.{length-drop, length-take-le, get_or-take, get_or-drop}
use Rattle.sm_world.proofs.Cells.{cell_of-more, place, wrote_inside, wrote_outside}
use Rattle.sm_world.proofs.Overwriting.{length-overwritten, inside_overwritten, outside_overwritten}
use Rattle.owned_lists.specs.Bytes.{overwritten}
use Rattle.sm_world.specs.Crash.{Cell, MayBeRead, cell_after, cell_of, readable}
use Rattle.sm_world.specs.Tape.{IsHeld, KeepsBytes}
use Rattle.sm_world.specs.declared.effects.Effect.{Effect}
use Rattle.sm_world.specs.declared.effects.Effect.TheVariants.{Heard, Sent, Shut, Started, Wrote, Torn, Synced, SyncFailed, Published, Printed}

same_byte : (b : ℕ) → IsTrue (readable (Some b) b)
same_byte b = grind arith

pub held_first : (file : List ℕ) → IsHeld file [] file
held_first file = record { size = refl; bytes = λ i within. same_byte (slice_index file i) }

-- what was readable stays readable
keeps : (effect : Effect) (i b : ℕ) (cell : Cell) → KeepsBytes effect → IsTrue (readable cell.reads b) → IsTrue (readable (cell_after effect i cell).reads b)
unfolding cell_after
keeps (Heard event) i b cell quiet was = was
keeps (Sent conn bytes) i b cell quiet was = was
keeps (Shut conn) i b cell quiet was = was
keeps (Started command succeeded) i b cell quiet was = was
keeps (Wrote at bytes) i b cell quiet was = absurd quiet
keeps (Torn at n) i b cell quiet was = elim (place at n i) [
  | inl inside ↦ rw inside refl
  | inr outside ↦ rw outside was
]
keeps Synced i b cell quiet was = was
keeps SyncFailed i b cell quiet was = was
keeps (Published path bytes) i b cell quiet was = was
keeps (Printed text) i b cell quiet was = was

pub held_noted : (first : List ℕ) (effects : List Effect) (file : List ℕ) (effect : Effect) → IsHeld first effects file → KeepsBytes effect → IsHeld first (effects ++ effect ∷ []) file
held_noted first effects file effect held quiet = record {
  size = held.size;
  bytes = λ i within. subst (λ (cell : Cell). IsTrue (readable cell.reads (slice_index file i))) (sym (cell_of-more first effects effect i)) (keeps effect i (slice_index file i) (cell_of first effects i) quiet (held.bytes i within));
}

module _ (first : List ℕ) (effects : List Effect) (file : List ℕ) (held : IsHeld first effects file) where
  pub held_written : (at : ℕ) (bytes : List ℕ) → at + length bytes ≤ length first → IsHeld first (effects ++ Wrote at bytes ∷ []) (overwritten file at bytes)
  held_written at bytes fits =
      let room : at + length bytes ≤ length file = omega (arith, fits, held.size) in
      let new = overwritten file at bytes in
      record {
        size = length-overwritten file at bytes room ∙ held.size;
        bytes = λ i within. rw (cell_of-more first effects (Wrote at bytes) i) (elim (place at (length bytes) i) [
          | inl inside ↦ rw (wrote_inside at bytes i (cell_of first effects i) inside, inside_overwritten file at bytes room i inside) (same_byte (slice_index bytes (i - at)))
          | inr outside ↦ rw (wrote_outside at bytes i (cell_of first effects i) outside, outside_overwritten file at bytes room i outside) (held.bytes i within)
        ]);
      }

  pub held_read : (at n : ℕ) → at + n ≤ length first → MayBeRead first effects at (take n (drop at file))
  held_read at n fits i within =
      let size : length (take n (drop at file)) ≡ n = length-take-le n (drop at file) (omega (arith, fits, held.size, length-drop at file)) in
      let same : slice_index (take n (drop at file)) i ≡ slice_index file (at + i) = get_or-take n (drop at file) i 0 (omega (arith, size, within)) ∙ get_or-drop at file i 0 in
      rw same (held.bytes (at + i) (omega (arith, size, within, fits)))
