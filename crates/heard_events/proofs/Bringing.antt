-- What a run was brought, event by event.
use Rattle.std.proofs.Common.{◌≡◌, ℕ, zero, suc, Bool, true, false, if◌then◌else◌, List, [], ◌∷◌, ◌++◌, length, drop, Option, Some, None, Ok, refl, sym, ◌∙◌, ap, arith, length-append}
use Rattle.sm_world.specs.Events.{next_of}
use Rattle.sm_world.specs.Outside.{TakesNext}
use Rattle.sm_world.specs.declared.events.Event.{Event}
use Rattle.heard_events.specs.Brought.{Brought, BroughtSoFar, next_events}

drop_none : {A : Type 0} (n : ℕ) → ◌≡◌ {A = List A} (drop n []) []
drop_none zero = refl
drop_none (suc n) = refl

pub brought_none : (coming : Option (List Event)) → BroughtSoFar coming coming []
brought_none None = refl
brought_none (Some coming) = (refl, refl)

-- the events to come, but for one more
drop_one_first : (n : ℕ) (xs : List Event) → drop n (drop 1 xs) ≡ drop (suc n) xs
drop_one_first n [] = drop_none n
drop_one_first n (x ∷ xs) = refl

drop_one_after : (n : ℕ) (xs : List Event) → drop 1 (drop n xs) ≡ drop (suc n) xs
drop_one_after zero xs = refl
drop_one_after (suc n) [] = refl
drop_one_after (suc n) (x ∷ xs) = drop_one_after n xs

next_events-more : (n : ℕ) (coming : List Event) → next_events (suc n) coming ≡ next_events n coming ++ next_of (drop n coming) ∷ []
next_events-more zero coming = refl
next_events-more (suc n) coming =
    ap (λ es. next_of coming ∷ es) (next_events-more n (drop 1 coming))
    ∙ ap (λ xs. next_of coming ∷ (next_events n (drop 1 coming) ++ next_of xs ∷ [])) (drop_one_first n coming)

pub length-more : (events : List Event) (event : Event) → length (events ++ event ∷ []) ≡ suc (length events)
length-more events event = omega (arith, length-append events (event ∷ []))

pub brought_more : (E : Type 0) (coming left after : Option (List Event)) (events : List Event) (event : Event) → BroughtSoFar coming left events → TakesNext {E = E} left after (Ok event) → BroughtSoFar coming after (events ++ event ∷ [])
brought_more E None left after events event brought takes = rw brought at takes
brought_more E (Some coming) left after events event brought takes =
    let takes_next : (event ≡ next_of (drop (length events) coming)) × (after ≡ Some (drop 1 (drop (length events) coming))) = rw brought.1 at takes in
    rw (length-more events event) (
      ap (λ es. es ++ event ∷ []) brought.0 ∙ (ap (λ e. next_events (length events) coming ++ e ∷ []) takes_next.0 ∙ sym (next_events-more (length events) coming)),
      takes_next.1 ∙ ap Some (drop_one_after (length events) coming),
    )

-- what was brought, without what is left
pub brought_is : (coming left : Option (List Event)) (events : List Event) → BroughtSoFar coming left events → Brought coming events
brought_is None left events brought = tt
brought_is (Some coming) left events brought = brought.0

pub brought_nothing : (coming : Option (List Event)) → Brought coming []
brought_nothing None = tt
brought_nothing (Some coming) = refl

-- what comes behind, where anything does, may be written otherwise
pub same_rest : {A : Type 0} (b : Bool) (first one other : List A) → (b ≡ false → one ≡ other) → first ++ (if b then [] else one) ≡ first ++ (if b then [] else other)
same_rest true first one other same = refl
same_rest false first one other same = ap (λ xs. first ++ xs) (same refl)
