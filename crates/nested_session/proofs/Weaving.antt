-- What is woven, one thing after another.
use Rattle.std.proofs.Common.{◌≡◌, ◌⊎◌, inl, inr, refl, sym, ap, ◌∙◌, List, [], ◌∷◌, ◌++◌, map}
use Rattle.std.proofs.lemmas.List.{map-append}
use Rattle.std.proofs.lemmas.Grind.{flat_map-append}
use Rattle.std.specs.List.{AllByRecursion}
use Rattle.sm_world.specs.Effects.{event_of, heard}
use Rattle.sm_world.specs.declared.effects.Effect.{Effect}
use Rattle.session_engine.specs.Doing.{item_of, items}
use Rattle.session_engine.specs.Machine.{Item}
use Rattle.nested_session.specs.Nests.{IsApart, IsNoCheckpoint}
use Rattle.nested_session.specs.Woven.{Inner, Woven, all_inner, effect_of, effects_of, inner_of, shown, shown_of}

pub all_append : {A : Type 0} (P : A → Type 0) (xs ys : List A) → AllByRecursion P xs → AllByRecursion P ys → AllByRecursion P (xs ++ ys)
all_append P [] ys p q = q
all_append P (x ∷ xs) ys p q = (p.0, all_append P xs ys p.1 q)

pub effects_append : (xs ys : List (Woven Effect)) → effects_of (xs ++ ys) ≡ effects_of xs ++ effects_of ys
effects_append xs ys = flat_map-append effect_of xs ys

pub inner_append : (xs ys : List (Woven Effect)) → all_inner (xs ++ ys) ≡ all_inner xs ++ all_inner ys
inner_append xs ys = flat_map-append inner_of xs ys

pub shown_append : (xs ys : List (Woven Effect)) → shown (xs ++ ys) ≡ shown xs ++ shown ys
shown_append xs ys = flat_map-append shown_of xs ys

pub heard_append : (xs ys : List Effect) → heard (xs ++ ys) ≡ heard xs ++ heard ys
heard_append xs ys = flat_map-append event_of xs ys

-- what the inner session adds

pub effects_inner : (es : List Effect) → effects_of (map Inner es) ≡ es
effects_inner [] = refl
effects_inner (e ∷ es) = ap (λ (xs : List Effect). e ∷ xs) (effects_inner es)

pub inner_inner : (es : List Effect) → all_inner (map Inner es) ≡ es
inner_inner [] = refl
inner_inner (e ∷ es) = ap (λ (xs : List Effect). e ∷ xs) (inner_inner es)

pub shown_inner : (es : List Effect) → shown (map Inner es) ≡ map Inner (items es)
shown_inner [] = refl
shown_inner (e ∷ es) = ap (λ (xs : List (Woven Item)). map Inner (item_of e) ++ xs) (shown_inner es) ∙ sym (map-append Inner (item_of e) (items es))

pub apart_inner : (es : List Effect) → AllByRecursion IsApart (map Inner es)
apart_inner [] = tt
apart_inner (e ∷ es) = (tt, apart_inner es)

pub no_order_inner : (es : List Effect) → AllByRecursion IsNoCheckpoint (map Inner es)
no_order_inner [] = tt
no_order_inner (e ∷ es) = (tt, no_order_inner es)

-- Where a thing stands in a list with one more at its end: it is that one, or it stands in the list.

abbrev Stands : {A : Type 0} → List A → A → List A → A → Type 0
Stands {A} front x all y = ((front ≡ all) × (x ≡ y)) ⊎ ((behind : List A) × (front ++ x ∷ behind ≡ all))

never_none : {A : Type 0} (front : List A) (x : A) (rest : List A) → front ++ x ∷ rest ≡ [] → ⊥
never_none [] x rest e = cc
never_none (f ∷ front) x rest e = cc

stands_further : {A : Type 0} (f : A) (front : List A) (x a : A) (all : List A) (y : A) → f ≡ a → Stands front x all y → Stands (f ∷ front) x (a ∷ all) y
stands_further f front x a all y same (inl both) = inl (heads both.0, both.1) where
  heads : front ≡ all → f ∷ front ≡ a ∷ all
  heads one = cc
stands_further f front x a all y same (inr further) = inr (further.0, heads further.1) where
  heads : front ++ x ∷ further.0 ≡ all → f ∷ (front ++ x ∷ further.0) ≡ a ∷ all
  heads one = cc

pub last_or_before : {A : Type 0} (front : List A) (x : A) (rest all : List A) (y : A) → front ++ x ∷ rest ≡ all ++ y ∷ [] → Stands front x all y
last_or_before [] x rest [] y e = inl (refl, first) where
  first : x ≡ y
  first = cc
last_or_before [] x rest (a ∷ all) y e = inr (all, first) where
  first : x ∷ all ≡ a ∷ all
  first = cc
last_or_before (f ∷ front) x rest [] y e = absurd (never_none front x rest tail) where
  tail : front ++ x ∷ rest ≡ []
  tail = cc
last_or_before (f ∷ front) x rest (a ∷ all) y e = stands_further f front x a all y heads (last_or_before front x rest all y tails) where
  heads : f ≡ a
  heads = cc

  tails : front ++ x ∷ rest ≡ all ++ y ∷ []
  tails = cc
