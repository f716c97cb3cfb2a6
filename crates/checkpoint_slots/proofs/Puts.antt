-- What one write and one sync do to the cells of the file.
use Rattle.std.proofs.Common.{◌≡◌, ◌-◌, ◌≤◌, ◌⊎◌, ℕ, zero, suc, Bool, true, false, ◌||◌, IsTrue, nat_le, ◌==◌, List, [], ◌∷◌, length, take, slice_index, refl, ap, sym, subst, ◌∙◌, inl, inr, arith}
use Rattle.std.proofs.lemmas.Bool.{false≢true}
use Rattle.sm_world.proofs.Cells.{place, wrote_inside, wrote_outside, torn_inside, torn_outside, others_keep}
use Rattle.sm_world.specs.Crash.{Cell, covers, readable, synced, torn, written, cell_after, cell_from}
use Rattle.sm_world.specs.declared.effects.Effect.{Effect}
use Rattle.sm_world.specs.declared.effects.Effect.TheVariants.{Wrote, Synced, SyncFailed}
use Rattle.checkpoint_slots.specs.Turns.{IsPut, nothing, tore, wrote, unsynced, done}

-- what may be read of a byte may be left of it
abbrev pub IsCalm : Cell → Type 0
IsCalm cell = (byte : ℕ) → IsTrue (readable cell.reads byte) → IsTrue (cell.left byte)

-- the effects of a put as far as they go
pub put-front : (at : ℕ) (bytes : List ℕ) {added : List Effect} → IsPut at bytes added → (n : ℕ) → IsPut at bytes (take n added)
put-front at bytes nothing zero = nothing
put-front at bytes nothing (suc n) = nothing
put-front at bytes (tore two) zero = nothing
put-front at bytes (tore two) (suc zero) = tore two
put-front at bytes (tore two) (suc (suc n)) = tore two
put-front at bytes wrote zero = nothing
put-front at bytes wrote (suc zero) = wrote
put-front at bytes wrote (suc (suc n)) = wrote
put-front at bytes unsynced zero = nothing
put-front at bytes unsynced (suc zero) = wrote
put-front at bytes unsynced (suc (suc zero)) = unsynced
put-front at bytes unsynced (suc (suc (suc n))) = unsynced
put-front at bytes done zero = nothing
put-front at bytes done (suc zero) = wrote
put-front at bytes done (suc (suc zero)) = done
put-front at bytes done (suc (suc (suc n))) = done

synced-is : (i : ℕ) (cell : Cell) → cell_after Synced i cell ≡ synced cell
unfolding cell_after
synced-is i cell = refl

failed-is : (i : ℕ) (cell : Cell) → cell_after SyncFailed i cell ≡ cell
failed-is i cell = others_keep SyncFailed i cell tt

module _ (at : ℕ) (bytes : List ℕ) (i : ℕ) (cell : Cell) where
  -- Outside of the range

  module _ (outside : covers at (length bytes) i ≡ false) where
    wrote-out : cell_after (Wrote at bytes) i cell ≡ cell
    wrote-out = wrote_outside at bytes i cell outside

    failed-out : cell_after SyncFailed i (cell_after (Wrote at bytes) i cell) ≡ cell
    failed-out = failed-is i (cell_after (Wrote at bytes) i cell) ∙ wrote-out

    done-out : cell_after Synced i (cell_after (Wrote at bytes) i cell) ≡ synced cell
    done-out = synced-is i (cell_after (Wrote at bytes) i cell) ∙ ap synced wrote-out

    -- a crash leaves no byte there that it didn't leave before
    pub outside-left : {added : List Effect} → IsPut at bytes added → IsCalm cell → (byte : ℕ) → IsTrue ((cell_from cell added i).left byte) → IsTrue (cell.left byte)
    outside-left nothing calm byte left = left
    outside-left (tore two) calm byte left = subst (λ (c : Cell). IsTrue (c.left byte)) (torn_outside at (length bytes) i cell outside) left
    outside-left wrote calm byte left = subst (λ (c : Cell). IsTrue (c.left byte)) wrote-out left
    outside-left unsynced calm byte left = subst (λ (c : Cell). IsTrue (c.left byte)) failed-out left
    outside-left done calm byte left = calm byte (subst (λ (c : Cell). IsTrue (c.left byte)) done-out left)

    outside-calm : {added : List Effect} → IsPut at bytes added → IsCalm cell → IsCalm (cell_from cell added i)
    outside-calm nothing calm = calm
    outside-calm (tore two) calm = subst (λ (c : Cell). IsCalm c) (sym (torn_outside at (length bytes) i cell outside)) calm
    outside-calm wrote calm = subst (λ (c : Cell). IsCalm c) (sym wrote-out) calm
    outside-calm unsynced calm = subst (λ (c : Cell). IsCalm c) (sym failed-out) calm
    outside-calm done calm = subst (λ (c : Cell). IsCalm c) (sym done-out) (λ byte read. read)

  -- Inside

  module _ (inside : covers at (length bytes) i ≡ true) where
    byte-there : ℕ
    byte-there = slice_index bytes (i - at)

    wrote-in : cell_after (Wrote at bytes) i cell ≡ written (length bytes) (slice_index bytes (i - at)) cell
    wrote-in = wrote_inside at bytes i cell inside

    failed-in : cell_after SyncFailed i (cell_after (Wrote at bytes) i cell) ≡ written (length bytes) (slice_index bytes (i - at)) cell
    failed-in = failed-is i (cell_after (Wrote at bytes) i cell) ∙ wrote-in

    done-in : cell_after Synced i (cell_after (Wrote at bytes) i cell) ≡ synced (written (length bytes) (slice_index bytes (i - at)) cell)
    done-in = synced-is i (cell_after (Wrote at bytes) i cell) ∙ ap synced wrote-in

    torn-calm : 2 ≤ length bytes → IsCalm (torn (length bytes) cell)
    torn-calm two byte read = first-true (nat_le 2 (length bytes)) (cell.left byte) (grind arith) where
      first-true : (one more : Bool) → one ≡ true → IsTrue (one || more)
      first-true true more e = refl
      first-true false more e = absurd (false≢true e)

    written-calm : IsCalm (written (length bytes) (slice_index bytes (i - at)) cell)
    written-calm byte read = last-true (nat_le 2 (length bytes)) (cell.left byte) (byte == slice_index bytes (i - at)) read where
      last-true : (one two three : Bool) → IsTrue three → IsTrue (one || (two || three))
      last-true true two three is = refl
      last-true false true three is = refl
      last-true false false three is = is

    inside-calm : {added : List Effect} → IsPut at bytes added → IsCalm cell → IsCalm (cell_from cell added i)
    inside-calm nothing calm = calm
    inside-calm (tore two) calm = subst (λ (c : Cell). IsCalm c) (sym (torn_inside at (length bytes) i cell inside)) (torn-calm two)
    inside-calm wrote calm = subst (λ (c : Cell). IsCalm c) (sym wrote-in) written-calm
    inside-calm unsynced calm = subst (λ (c : Cell). IsCalm c) (sym failed-in) written-calm
    inside-calm done calm = subst (λ (c : Cell). IsCalm c) (sym done-in) (λ byte read. read)

    -- after the sync a crash leaves what was written
    pub done-left : (byte : ℕ) → IsTrue ((cell_from cell (Wrote at bytes ∷ Synced ∷ []) i).left byte) → byte ≡ slice_index bytes (i - at)
    done-left byte left = let there : IsTrue ((synced (written (length bytes) (slice_index bytes (i - at)) cell)).left byte) = subst (λ (c : Cell). IsTrue (c.left byte)) done-in left in grind (arith, there)

  pub put-calm : {added : List Effect} → IsPut at bytes added → IsCalm cell → IsCalm (cell_from cell added i)
  put-calm put calm = elim (place at (length bytes) i) [
    | inl inside ↦ inside-calm inside put calm
    | inr outside ↦ outside-calm outside put calm
  ]

-- A byte that was put alone

module _ (at x : ℕ) (cell : Cell) where
  here : covers at (length (x ∷ [])) at ≡ true
  here = grind arith

  itself : slice_index (x ∷ []) (at - at) ≡ x
  itself = let e : at - at ≡ 0 = omega arith in ap (λ (k : ℕ). slice_index (x ∷ []) k) e

  wrote-alone : (byte : ℕ) → IsTrue ((written 1 (slice_index (x ∷ []) (at - at)) cell).left byte) → IsTrue (cell.left byte) ⊎ (byte ≡ x)
  wrote-alone byte left = either (cell.left byte) (byte == slice_index (x ∷ []) (at - at)) left refl refl where
    either : (one two : Bool) → IsTrue (one || two) → cell.left byte ≡ one → (byte == slice_index (x ∷ []) (at - at)) ≡ two → IsTrue (cell.left byte) ⊎ (byte ≡ x)
    either true two is e f = inl e
    either false true is e f = inr (grind (arith, itself))
    either false false is e f = absurd (false≢true is)

  -- a crash leaves the old byte or the new one
  pub alone-left : {added : List Effect} → IsPut at (x ∷ []) added → IsCalm cell → (byte : ℕ) → IsTrue ((cell_from cell added at).left byte) → IsTrue (cell.left byte) ⊎ (byte ≡ x)
  alone-left nothing calm byte left = inl left
  alone-left (tore two) calm byte left = absurd (grind (arith, two))
  alone-left wrote calm byte left = wrote-alone byte (subst (λ (c : Cell). IsTrue (c.left byte)) (wrote-in at (x ∷ []) at cell here) left)
  alone-left unsynced calm byte left = wrote-alone byte (subst (λ (c : Cell). IsTrue (c.left byte)) (failed-in at (x ∷ []) at cell here) left)
  alone-left done calm byte left = inr (done-left at (x ∷ []) at cell here byte left ∙ itself)
