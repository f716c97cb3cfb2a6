-- A fact about each front of effects, and calls that follow one another.
use Rattle.std.proofs.Common.{◌≡◌, ◌⊎◌, inl, inr, arith, ℕ, ◌+◌, ◌-◌, ◌≤◌, List, [], ◌∷◌, ◌++◌, length, take, Ok, sym, ◌∙◌, subst, append_assoc}
use Rattle.std.proofs.lemmas.List.{take-append-le, take_all}
use Rattle.std.proofs.lemmas.Bool.{cases_lt}
use Rattle.std.specs.List.{AllByRecursion}
use Rattle.std.proofs.Math.Seq.{take-append-add}
use Rattle.sm_world.specs.Crash.{Image}
use Rattle.sm_world.specs.declared.effects.Effect.{Effect}
use Rattle.checkpoint_records.specs.declared.records.Book.{Book}
use Rattle.checkpoint_slots.specs.Recovery.{Recovers}
use Rattle.checkpoint_slots.specs.Turns.{IsOfStore, Swap, opened_in}

-- A fact about each front of two lists of effects.
pub fronts_two : (P : List Effect → Type 0) (es ds : List Effect) → ((n : ℕ) → P (take n es)) → ((n : ℕ) → P (es ++ take n ds)) → (n : ℕ) → P (take n (es ++ ds))
fronts_two P es ds before after n = elim (cases_lt n (length es)) [
  | inl h ↦ let within : n ≤ length es = omega arith in rw (take-append-le n es ds within) (before n)
  | inr h ↦ let place : length es + (n - length es) ≡ n = omega arith in
      let Q : ℕ → Type 0 = λ k. P (take k (es ++ ds)) in
      subst Q place (rw (take-append-add es ds (n - length es)) (after (n - length es)))
]

-- fronts past the end are the whole
pub any_front : (P : List Effect → Type 0) (es : List Effect) → ((n : ℕ) → n ≤ length es → P (take n es)) → (n : ℕ) → P (take n es)
any_front P es short n = elim (cases_lt (length es) n) [
  | inl h ↦ subst P (take_all (length es) es (omega arith) ∙ sym (take_all n es (omega arith))) (short (length es) (omega arith))
  | inr h ↦ short n h
]

pub store_both : (es ds : List Effect) → AllByRecursion IsOfStore es → AllByRecursion IsOfStore ds → AllByRecursion IsOfStore (es ++ ds)
store_both [] ds one two = two
store_both (e ∷ es) ds one two = (one.0, store_both es ds one.1 two)

pub opened_in-append : (es ds : List Effect) → opened_in (es ++ ds) ≡ opened_in es + opened_in ds
opened_in-append [] ds = omega arith
opened_in-append (e ∷ es) ds = let rest = opened_in-append es ds in omega (arith, rest)

-- Two calls that swap the same books, one after the other.
pub swap_both : (first : List ℕ) (effects es ds : List Effect) (old new : Book) → Swap first effects es old new → Swap first (effects ++ es) ds old new → Swap first effects (es ++ ds) old new
swap_both first effects es ds old new one two n within =
    let Has : List Effect → Type 0 = λ zs. (file : List ℕ) → Image first (effects ++ zs) file → Recovers file (Ok old) ⊎ Recovers file (Ok new) in
    fronts_two Has es ds (any_front Has es one)
    (any_front (λ zs. Has (es ++ zs)) ds (λ k inside file image. two k inside file (subst (λ (zs : List Effect). Image first zs file) (sym (append_assoc effects es (take k ds))) image))) n
