-- An append: an amendment is put behind the last gate, and then the gate is opened.
use Rattle.std.proofs.Common.{◌≡◌, ◌+◌, ◌<◌, ◌≤◌, ◌⊎◌, ℕ, List, [], ◌∷◌, ◌++◌, length, take, drop, slice_index, ◌∙◌, inl, inr, arith}
use Rattle.std.specs.Prelude.{Some, Ok}
use Rattle.std.proofs.lemmas.Grind.{same_number_lists}
use Rattle.std.proofs.lemmas.List.{get_or-drop, get_or-take, length-drop, length-take}
use Rattle.sm_world.specs.Crash.{Image}
use Rattle.sm_world.specs.declared.effects.Effect.{Effect}
use Rattle.sm_world.specs.declared.effects.Effect.TheVariants.{Synced, Wrote}
use Rattle.checkpoint_records.specs.declared.records.Book.{Book}
use Rattle.checkpoint_changes.specs.Amendments.{Amended}
use Rattle.checkpoint_records.specs.declared.head.Format.TheVariants.{Several}
use Rattle.checkpoint_changes.specs.Changes.{IsChange, change_cells}
use Rattle.checkpoint_changes.specs.declared.changes.Change.{Change}
use Rattle.checkpoint_slots.specs.declared.turn.Current.{Current}
use Rattle.checkpoint_slots.specs.Layout.{start_of}
use Rattle.checkpoint_slots.specs.Recovery.{Recovers}
use Rattle.checkpoint_slots.specs.Turns.{EveryImage, IsPut, SteadyFile, SteadyStands, Swap, advanced, done}
use Rattle.checkpoint_slots.proofs.Images.{agree-before, done-bytes, every-after, file_before, image-before, old-or-new}
use Rattle.checkpoint_slots.proofs.Puts.{put-front}
use Rattle.checkpoint_slots.proofs.Turning.{done-byte}
use Rattle.checkpoint_journal.specs.Journal.{behind, size_of}
use Rattle.checkpoint_journal.proofs.Growing.{behind-size}
use Rattle.checkpoint_journal.proofs.Ranges.{behind-file, gate-file, slot-fits}

-- a steady file with all of an amendment but its open gate
pub record AppendedFile (current : Current) (end : ℕ) (book : Book) (delta : List Change) (file : List ℕ) : Type 0 where
  pub steady : SteadyFile (Some current) book file
  pub stands : take (length (behind delta)) (drop (end + 1) file) ≡ behind delta

module _ (current : Current) (end : ℕ) (ends : current.end ≡ Some end) (delta : List Change) (room : end + 8 + size_of delta < start_of current.slot + 8388608) (first : List ℕ) (effects : List Effect) (book : Book) where
  fits-file : end + 1 + length (behind delta) ≤ 16777280
  fits-file = omega (arith, room, behind-size delta, slot-fits current.slot)

  -- Behind the gate

  module _ (stands : SteadyStands (Some current) book first effects) where
    module _ (added : List Effect) (put : IsPut (end + 1) (behind delta) added) (file : List ℕ) (image : Image first (effects ++ added) file) where
      still : SteadyFile (Some current) book file
      still =
          let before : List ℕ = file_before (SteadyFile (Some current) book) first effects stands (end + 1) (behind delta) added put file image in
          behind-file current end ends book before file (image.size ∙ stands.size) (stands.images before (image-before (SteadyFile (Some current) book) first effects stands (end + 1) (behind delta) added put file image)) (length (behind delta)) (omega (arith, room, behind-size delta))
          (agree-before (SteadyFile (Some current) book) first effects stands (end + 1) (behind delta) added put file image)

    pub behind-swap : (added : List Effect) → IsPut (end + 1) (behind delta) added → (next : Book) → Swap first effects added book next
    behind-swap added put next n within file image = inl (still (take n added) (put-front (end + 1) (behind delta) put n) file image).recovers

    tail-now : (file : List ℕ) → Image first (effects ++ Wrote (end + 1) (behind delta) ∷ Synced ∷ []) file → take (length (behind delta)) (drop (end + 1) file) ≡ behind delta
    tail-now file image =
        let fits = fits-file in
        let sized : length file ≡ 16777280 = image.size ∙ stands.size in
        let long = length-take (length (behind delta)) (drop (end + 1) file) in
        same_number_lists (take (length (behind delta)) (drop (end + 1) file)) (behind delta) (omega (arith, long, length-drop (end + 1) file, sized, fits)) (λ i within.
        let small : i < length (behind delta) = omega (arith, within, long) in
        get_or-take (length (behind delta)) (drop (end + 1) file) i 0 small ∙ get_or-drop (end + 1) file i 0 ∙ done-bytes first effects (end + 1) (behind delta) file image i small (omega (arith, small, fits, stands.size)))

    pub behind-stands : EveryImage (AppendedFile current end book delta) first (effects ++ Wrote (end + 1) (behind delta) ∷ Synced ∷ [])
    behind-stands =
        every-after (SteadyFile (Some current) book) first effects stands (end + 1) (behind delta) (Wrote (end + 1) (behind delta) ∷ Synced ∷ []) done (AppendedFile current end book delta)
        (λ file image. record { steady = still (Wrote (end + 1) (behind delta) ∷ Synced ∷ []) done file image; stands = tail-now file image })

  -- The gate

  module _ (next : Book) (amended : Amended (change_cells Several) (IsChange Several) book delta next) (stands : EveryImage (AppendedFile current end book delta) first effects) where
    gate-at : end < length first
    gate-at = let fits = fits-file in omega (arith, fits, stands.size, behind-size delta)

    module _ (added : List Effect) (put : IsPut end (165 ∷ []) added) (file : List ℕ) (image : Image first (effects ++ added) file) where
      opened-now : slice_index file end ≡ 165 → SteadyFile (advanced (Some current) (size_of delta)) next file
      opened-now gate =
          let before : List ℕ = file_before (AppendedFile current end book delta) first effects stands end (165 ∷ []) added put file image in
          let was : AppendedFile current end book delta before = stands.images before (image-before (AppendedFile current end book delta) first effects stands end (165 ∷ []) added put file image) in
          gate-file current end ends book before file (image.size ∙ stands.size) was.steady delta next amended room was.stands
          (agree-before (AppendedFile current end book delta) first effects stands end (165 ∷ []) added put file image) gate

      gate-recovers : Recovers file (Ok book) ⊎ Recovers file (Ok next)
      gate-recovers = elim (old-or-new (AppendedFile current end book delta) first effects stands end 165 added put file image gate-at) [
        | inl old ↦ inl (stands.images file old).steady.recovers
        | inr gate ↦ inr (opened-now gate).recovers
      ]

    pub gate-swap : (added : List Effect) → IsPut end (165 ∷ []) added → Swap first effects added book next
    gate-swap added put n within file image = gate-recovers (take n added) (put-front end (165 ∷ []) put n) file image

    pub gate-stands : SteadyStands (advanced (Some current) (size_of delta)) next first (effects ++ Wrote end (165 ∷ []) ∷ Synced ∷ [])
    gate-stands =
        every-after (AppendedFile current end book delta) first effects stands end (165 ∷ []) (Wrote end (165 ∷ []) ∷ Synced ∷ []) done (SteadyFile (advanced (Some current) (size_of delta)) next)
        (λ file image. opened-now (Wrote end (165 ∷ []) ∷ Synced ∷ []) done file image (done-byte first effects end 165 file gate-at image))
