-- The effects of a put, by what its write and its sync answered.
use Rattle.std.proofs.Common.{◌≡◌, ◌∷◌, [], ℕ, List, Result, Ok, Err, OnOk, OnErr, length, drop, refl, ap, sym, subst, ◌∙◌, inl, inr, arith}
use Rattle.std.specs.Prelude.{Option}
use Rattle.std.specs.List.{AllByRecursion}
use Rattle.sm_world.specs.Crash.{LeavesStore}
use Rattle.sm_world.specs.Disk.{IsFailedWrite, IsFailedSync}
use Rattle.sm_world.specs.Outside.{Added, adds}
use Rattle.sm_world.proofs.Adding.{adds-adds}
use Rattle.sm_world.specs.declared.effects.Effect.{Effect}
use Rattle.sm_world.specs.declared.effects.Effect.TheVariants.{Synced, Wrote}
use Rattle.checkpoint_slots.specs.Turns.{Puts, nothing, tore, unsynced, wrote}

abbrev Failed : (A : Type 0) {E : Type 0} → ℕ → List ℕ → E → List Effect → Type 0
Failed A {E = E} at bytes fault added = Puts {A = A} {E = E} at bytes (Err fault) added

failed-put : (A : Type 0) {E : Type 0} (at : ℕ) (bytes : List ℕ) (fault : E) {added : List Effect} → IsFailedWrite at (length bytes) added → Failed A at bytes fault added
failed-put A at bytes fault (inl none) = subst (λ (es : List Effect). Failed A at bytes fault es) (sym none) (nothing, λ e. omega (arith, ap length e))
failed-put A at bytes fault (inr torn) = subst (λ (es : List Effect). Failed A at bytes fault es) (sym torn.1) (tore torn.0, λ e. omega (arith, ap length e))

unsynced-put : (A : Type 0) {E : Type 0} (at : ℕ) (bytes : List ℕ) (fault : E) {added : List Effect} → IsFailedSync added → Failed A at bytes fault (Wrote at bytes ∷ added)
unsynced-put A at bytes fault (inl none) = subst (λ (es : List Effect). Failed A at bytes fault (Wrote at bytes ∷ es)) (sym none) (wrote, λ e. omega (arith, ap length e))
unsynced-put A at bytes fault (inr failed) =
    subst (λ (es : List Effect). Failed A at bytes fault (Wrote at bytes ∷ es)) (sym failed) (unsynced, λ e. (subst (λ (es : List Effect). AllByRecursion LeavesStore (drop 1 es)) e (tt, tt)).0)

pub put-failed : (A : Type 0) {E : Type 0} (at : ℕ) (bytes : List ℕ) (e : E) {old new : Option (List Effect)} → Added old new (IsFailedWrite at (length bytes)) → Added old new (Puts {A = A} {E = E} at bytes (Err e))
put-failed A at bytes e a = record { effects = a.effects; added = a.added; holds = failed-put A at bytes e a.holds }

pub put-synced : {A E : Type 0} (at : ℕ) (bytes : List ℕ) (result : Result A E) {old mid new : Option (List Effect)} → mid ≡ adds old (Wrote at bytes ∷ []) → OnOk result (new ≡ adds mid (Synced ∷ [])) → OnErr result (Added mid new IsFailedSync)
    → Added old new (Puts at bytes result)
put-synced at bytes (Ok x) {old = old} w s f = record {
  effects = Wrote at bytes ∷ Synced ∷ [];
  added = s ∙ ap (λ (told : Option (List Effect)). adds told (Synced ∷ [])) w ∙ adds-adds old (Wrote at bytes ∷ []) (Synced ∷ []);
  holds = refl;
}
put-synced {A = A} at bytes (Err e) {old = old} w s f = record {
  effects = Wrote at bytes ∷ f.effects;
  added = f.added ∙ ap (λ (told : Option (List Effect)). adds told f.effects) w ∙ adds-adds old (Wrote at bytes ∷ []) f.effects;
  holds = unsynced-put A at bytes e f.holds;
}
