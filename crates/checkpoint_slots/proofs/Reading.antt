-- Numbers and bytes of a slot, as they are read from the file.
use Rattle.std.proofs.Common.{◌≡◌, ◌+◌, ◌*◌, ◌<◌, ◌≤◌, ℕ, zero, suc, List, take, drop, slice_index, refl, ap, sym, ◌∙◌, arith}
use Rattle.std.proofs.lemmas.List.{get_or-drop, get_or-take}
use Rattle.byteorder.specs.Endian.{little_from, little_number}
use Rattle.checkpoint_slots.specs.declared.layout.Slot.{Slot}
use Rattle.checkpoint_slots.specs.Layout.{slot_of, start_of}
use Rattle.checkpoint_slots.specs.Recovery.{generation_of, length_of}
use Rattle.checkpoint_slots.proofs.Files.{slot-byte}

-- a number is that of its bytes
pub little-same : (k n : ℕ) (xs ys : List ℕ) → ((i : ℕ) → i < k + n → slice_index xs i ≡ slice_index ys i) → little_from k n xs ≡ little_from k n ys
little-same k zero xs ys same = refl
little-same k (suc n) xs ys same = λ j. same k (omega arith) j + 256 * little-same (suc k) n xs ys (λ i within. same i (omega (arith, within))) j

module _ (file : List ℕ) (slot : Slot) where
  number-at : (at k n : ℕ) (bytes : List ℕ) → at ≡ start_of slot + k → bytes ≡ take n (drop at file) → k + n ≤ 8388608 → little_number n bytes ≡ little_number n (drop k (slot_of file slot))
  number-at at k n bytes place e fits = little-same 0 n bytes (drop k (slot_of file slot)) (λ i within.
      let small : i < n = omega (arith, within) in
      let inside : k + i < 8388608 = omega (arith, within, fits) in
      let there : at + i ≡ start_of slot + (k + i) = omega (arith, place) in
      ap (λ (xs : List ℕ). slice_index xs i) e ∙ get_or-take n (drop at file) i 0 small ∙ get_or-drop at file i 0 ∙ ap (λ (j : ℕ). slice_index file j) there ∙ sym (slot-byte file slot (k + i) inside) ∙ sym (get_or-drop k (slot_of file slot) i 0))

  pub generation-at : (at : ℕ) (bytes : List ℕ) → at ≡ start_of slot → bytes ≡ take 8 (drop at file) → little_number 8 bytes ≡ generation_of (slot_of file slot)
  unfolding generation_of
  generation-at at bytes place e = number-at at 0 8 bytes (omega (arith, place)) e (omega arith)

  pub length-at : (at : ℕ) (bytes : List ℕ) → at ≡ start_of slot + 8 → bytes ≡ take 4 (drop at file) → little_number 4 bytes ≡ length_of (slot_of file slot)
  unfolding length_of
  length-at at bytes place e = number-at at 8 4 bytes place e (omega arith)
