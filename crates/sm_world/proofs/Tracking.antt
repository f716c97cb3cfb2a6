-- The track of a byte shows its cell and what is held there, effect by effect.
use Rattle.std.proofs.Common.{◌≡◌, ◌+◌, ◌-◌, ◌<◌, ℕ, true, false, List, [], ◌∷◌, ◌++◌, get_or, take, length, slice_index, refl, ap, sym, ◌∙◌}
use Rattle.std.proofs.lemmas.List.{take_more}
use Rattle.sm_world.proofs.Cells.{cell_from-append}
use Rattle.sm_world.specs.Crash.{Cell, covers, written, torn, synced, cell_after, cell_from}
use Rattle.sm_world.specs.Choices.{Held, IsTracked, held_after, held_from}
use Rattle.sm_world.specs.declared.crash.Track.{Track}
use Rattle.sm_world.specs.declared.effects.Effect.{Effect}
use Rattle.sm_world.specs.declared.effects.Effect.TheVariants.{Heard, Sent, Shut, Started, Wrote, Torn, Synced, SyncFailed, Published, Printed}

-- a track that shows the cell and what is held, one effect later
abbrev pub ShowsAfter : ℕ → Effect → ℕ → Cell → Held → Track → Type 0
ShowsAfter fill effect i cell held track = IsTracked fill (cell_after effect i cell) (held_after effect i held) track

module _ (fill i : ℕ) (cell : Cell) (held : Held) (track : Track) where
  pub wrote_elsewhere : (at : ℕ) (bytes : List ℕ) → covers at (length bytes) i ≡ false → IsTracked fill cell held track → ShowsAfter fill (Wrote at bytes) i cell held track
  unfolding cell_after held_after
  wrote_elsewhere at bytes outside was = rw outside was

  pub wrote_here : (at : ℕ) (bytes : List ℕ) → covers at (length bytes) i ≡ true → IsTracked fill (written (length bytes) (slice_index bytes (i - at)) cell) (record held { now = slice_index bytes (i - at) }) track → ShowsAfter fill (Wrote at bytes) i cell held track
  unfolding cell_after held_after
  wrote_here at bytes inside new = rw inside new

  pub torn_elsewhere : (at n : ℕ) → covers at n i ≡ false → IsTracked fill cell held track → ShowsAfter fill (Torn at n) i cell held track
  unfolding cell_after held_after
  torn_elsewhere at n outside was = rw outside was

  pub torn_here : (at n : ℕ) → covers at n i ≡ true → IsTracked fill (torn n cell) held track → ShowsAfter fill (Torn at n) i cell held track
  unfolding cell_after held_after
  torn_here at n inside new = rw inside new

  pub synced_here : IsTracked fill (synced cell) (record held { synced = held.now }) track → ShowsAfter fill Synced i cell held track
  unfolding cell_after held_after
  synced_here new = new

  pub others_shown : (effect : Effect) → ((at : ℕ) (bytes : List ℕ) → effect ≡ Wrote at bytes → ⊥) → ((at n : ℕ) → effect ≡ Torn at n → ⊥) → (effect ≡ Synced → ⊥) → IsTracked fill cell held track → ShowsAfter fill effect i cell held track
  unfolding cell_after held_after
  others_shown (Heard event) writes tears syncs was = was
  others_shown (Sent conn bytes) writes tears syncs was = was
  others_shown (Shut conn) writes tears syncs was = was
  others_shown (Started command succeeded) writes tears syncs was = was
  others_shown (Wrote at bytes) writes tears syncs was = absurd (writes at bytes refl)
  others_shown (Torn at n) writes tears syncs was = absurd (tears at n refl)
  others_shown Synced writes tears syncs was = absurd (syncs refl)
  others_shown SyncFailed writes tears syncs was = was
  others_shown (Published path bytes) writes tears syncs was = was
  others_shown (Printed text) writes tears syncs was = was

pub held_from-append : (held : Held) (effects added : List Effect) (i : ℕ) → held_from held (effects ++ added) i ≡ held_from (held_from held effects i) added i
held_from-append held [] added i = refl
held_from-append held (effect ∷ effects) added i = held_from-append (held_after effect i held) effects added i

-- through one effect of the list more
pub shown_further : (fill i : ℕ) (effects : List Effect) (n : ℕ) (effect : Effect) (cell : Cell) (held : Held) (track : Track) → n < length effects → effect ≡ get_or effects n effect → ShowsAfter fill effect i (cell_from cell (take n effects) i) (held_from held (take n effects) i) track → IsTracked fill (cell_from cell (take (n + 1) effects) i) (held_from held (take (n + 1) effects) i) track
shown_further fill i effects n effect cell held track within is shows =
    let grown : take (n + 1) effects ≡ take n effects ++ effect ∷ [] = take_more effects n effect within ∙ ap (λ (e : Effect). take n effects ++ e ∷ []) (sym is) in
    rw (grown, cell_from-append cell (take n effects) (effect ∷ []) i, held_from-append held (take n effects) (effect ∷ []) i) shows
