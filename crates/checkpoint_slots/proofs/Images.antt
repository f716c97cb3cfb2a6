-- The files that a crash may leave after a put, by those that it may leave before.
use Rattle.std.proofs.Common.{◌≡◌, ◌+◌, ◌<◌, ◌⊎◌, ℕ, Bool, true, false, IsTrue, List, [], ◌∷◌, ◌++◌, length, map, slice_index, refl, ap, sym, subst, ◌∙◌, inl, inr, arith}
use Rattle.std.specs.Prelude.{Option, Some, None}
use Rattle.std.specs.List.{range_with_len}
use Rattle.std.proofs.lemmas.List.FromFn.{get_or-map-range_with_len, length-map-range_with_len}
use Rattle.sm_world.proofs.Cells.{cell_from-append, place}
use Rattle.sm_world.specs.Crash.{Cell, Image, cell_from, cell_of, covers, readable}
use Rattle.sm_world.specs.declared.effects.Effect.{Effect}
use Rattle.sm_world.specs.declared.effects.Effect.TheVariants.{Wrote, Synced}
use Rattle.checkpoint_slots.specs.Turns.{EveryImage, IsPut}
use Rattle.checkpoint_slots.proofs.Puts.{IsCalm, put-calm, outside-left, alone-left, done-left}

-- two files are the same but for a range
pub record Agree (at n : ℕ) (one two : List ℕ) : Type 0 where
  pub size : length one ≡ length two
  pub bytes : (i : ℕ) → i < length two → covers at n i ≡ false → slice_index one i ≡ slice_index two i

-- a byte that may be read of a cell, or any where all may be
abbrev some_byte : Option ℕ → ℕ
some_byte None = 0
some_byte (Some byte) = byte

some-readable : (reads : Option ℕ) → IsTrue (readable reads (some_byte reads))
some-readable None = refl
some-readable (Some byte) = grind arith

module _ (P : List ℕ → Type 0) (first : List ℕ) (effects : List Effect) (every : EveryImage P first effects) where
  calm : (i : ℕ) → i < length first → IsCalm (cell_of first effects i)
  calm i within = every.calm i within

  module _ (at : ℕ) (bytes : List ℕ) (added : List Effect) (put : IsPut at bytes added) where
    after : (i : ℕ) → cell_of first (effects ++ added) i ≡ cell_from (cell_of first effects i) added i
    after i = cell_from-append _ effects added i

    -- what may be read may be left afterwards too
    pub calm-after : (i : ℕ) → i < length first → IsCalm (cell_of first (effects ++ added) i)
    calm-after i within = subst (λ (c : Cell). IsCalm c) (sym (after i)) (put-calm at bytes i (cell_of first effects i) put (calm i within))

    pub every-after : (Q : List ℕ → Type 0) → ((file : List ℕ) → Image first (effects ++ added) file → Q file) → EveryImage Q first (effects ++ added)
    every-after Q images = record { size = every.size; calm = calm-after; images = images }

    module _ (file : List ℕ) (image : Image first (effects ++ added) file) where
      left-after : (i : ℕ) → i < length first → IsTrue ((cell_from (cell_of first effects i) added i).left (slice_index file i))
      left-after i within = subst (λ (c : Cell). IsTrue (c.left (slice_index file i))) (after i) (image.bytes i within)

      pub left-before : (i : ℕ) → i < length first → covers at (length bytes) i ≡ false → IsTrue ((cell_of first effects i).left (slice_index file i))
      left-before i within outside = outside-left at bytes i (cell_of first effects i) outside put (calm i within) (slice_index file i) (left-after i within)

      -- A file that a crash may leave before, which differs in the range alone: it is as the file outside, and
      -- inside it has what may be read.
      abbrev byte_before : Bool → ℕ → ℕ
      byte_before true i = some_byte (cell_of first effects i).reads
      byte_before false i = slice_index file i

      abbrev byte_at : ℕ → ℕ
      byte_at i = byte_before (covers at (length bytes) i) i

      abbrev pub file_before : List ℕ
      file_before = map byte_at (range_with_len 0 (length first))

      byte-is : (i : ℕ) → i < length first → slice_index file_before i ≡ byte_at i
      byte-is i within = get_or-map-range_with_len byte_at 0 (length first) i i 0 within (omega arith)

      before-left : (i : ℕ) → i < length first → IsTrue ((cell_of first effects i).left (byte_at i))
      before-left i within = elim (place at (length bytes) i) [
        | inl inside ↦ rw inside (calm i within (some_byte (cell_of first effects i).reads) (some-readable (cell_of first effects i).reads))
        | inr outside ↦ rw outside (left-before i within outside)
      ]

      pub image-before : Image first effects file_before
      image-before = record {
        size = length-map-range_with_len byte_at 0 (length first);
        bytes = λ i within. subst (λ (byte : ℕ). IsTrue ((cell_of first effects i).left byte)) (sym (byte-is i within)) (before-left i within);
      }

      pub agree-before : Agree at (length bytes) file_before file
      agree-before = record {
        size = length-map-range_with_len byte_at 0 (length first) ∙ sym image.size;
        bytes = λ i within outside.
            let inside : i < length first = subst (λ (n : ℕ). i < n) image.size within in
            byte-is i inside ∙ ap (λ (b : Bool). byte_before b i) outside;
      }

  -- One byte that is put alone: either a crash may have left the file before, or the new byte stands there.
  module _ (at x : ℕ) (added : List Effect) (put : IsPut at (x ∷ []) added) (file : List ℕ) (image : Image first (effects ++ added) file) where
    covered : (i : ℕ) → covers at 1 i ≡ true → i ≡ at
    covered i inside = grind arith

    here-left : IsTrue ((cell_of first effects at).left (slice_index file at)) → (i : ℕ) → i < length first → IsTrue ((cell_of first effects i).left (slice_index file i))
    here-left here i within = elim (place at 1 i) [
      | inl inside ↦ subst (λ (j : ℕ). IsTrue ((cell_of first effects j).left (slice_index file j))) (sym (covered i inside)) here
      | inr outside ↦ left-before at (x ∷ []) added put file image i within outside
    ]

    pub old-or-new : at < length first → Image first effects file ⊎ (slice_index file at ≡ x)
    old-or-new within = elim (alone-left at x (cell_of first effects at) put (calm at within) (slice_index file at) (left-after at (x ∷ []) added put file image at within)) [
      | inl old ↦ inl (record { size = image.size; bytes = here-left old })
      | inr new ↦ inr new
    ]

-- After the sync the new bytes stand there.
pub done-bytes : (first : List ℕ) (effects : List Effect) (at : ℕ) (bytes : List ℕ) (file : List ℕ) → Image first (effects ++ Wrote at bytes ∷ Synced ∷ []) file
    → (k : ℕ) → k < length bytes → at + k < length first → slice_index file (at + k) ≡ slice_index bytes k
done-bytes first effects at bytes file image k within fits =
    let inside : covers at (length bytes) (at + k) ≡ true = grind (arith, within) in
    let left = subst (λ (c : Cell). IsTrue (c.left (slice_index file (at + k)))) (cell_from-append _ effects (Wrote at bytes ∷ Synced ∷ []) (at + k)) (image.bytes (at + k) fits) in
    done-left at bytes (at + k) (cell_of first effects (at + k)) inside (slice_index file (at + k)) left ∙ ap (λ (j : ℕ). slice_index bytes j) (omega arith)
