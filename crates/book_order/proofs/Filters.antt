-- Lists of which some items stay in their order, and others come behind them.
use Rattle.std.proofs.Common.{◌≡◌, Bool, true, false, cond, ◌||◌, inl, inr, List, [], ◌∷◌, ◌++◌, refl, sym, ap, ◌∙◌, subst}
use Rattle.std.proofs.lemmas.Bool.{cases_Bool, false≢true}
use Rattle.std.proofs.lemmas.List.{append-nil}
use Rattle.std.proofs.lemmas.List.Folds.{list_any-append}
use Rattle.std.specs.Prelude.{filter}
use Rattle.std.specs.List.{AllByRecursion, list_any}
use Rattle.checkpoint_changes.specs.Plain.{KeepsOrder}
use Rattle.checkpoint_changes.proofs.EqualLaws.{DecidesEqual}
use Rattle.checkpoint_changes.proofs.PlainLaws.{filter_same}
use Rattle.session_model.proofs.Pending.{all-append, all-more}

pub either_false : (a b : Bool) → a ≡ false → b ≡ false → (a || b) ≡ false
either_false a b p q = rw (p, q) refl

or_true : (b : Bool) → (b || true) ≡ true
or_true true = refl
or_true false = refl

pub filter_all : {K : Type 0} (ks : List K) → filter (λ k. true) ks ≡ ks
filter_all [] = refl
filter_all (k ∷ ks) = ap (λ xs. k ∷ xs) (filter_all ks)

-- what passes a test passes it
pass_at : {K : Type 0} (p : K → Bool) (b : Bool) (k : K) (ks : List K) → p k ≡ b → AllByRecursion (λ x. p x ≡ true) ks → AllByRecursion (λ x. p x ≡ true) (cond b (k ∷ ks) ks)
pass_at p true k ks e h = (e, h)
pass_at p false k ks e h = h

pub all_pass : {K : Type 0} (p : K → Bool) (ks : List K) → AllByRecursion (λ x. p x ≡ true) (filter p ks)
all_pass p [] = tt
all_pass p (k ∷ ks) = pass_at p (p k) k (filter p ks) refl (all_pass p ks)

module _ {K : Type 0} (same : K → K → Bool) (decides : DecidesEqual same) where
  own : (k : K) → same k k ≡ true
  own k = (decides k k).1 refl

  module _ (p : K → Bool) where
    -- an item that fails is none of those that pass
    apart : (x k : K) → p x ≡ false → p k ≡ true → same x k ≡ false
    apart x k fails passes = elim (cases_Bool (same x k)) [
      | inl it ↦ absurd (false≢true (sym fails ∙ (ap p ((decides x k).0 it) ∙ passes)))
      | inr it ↦ it
    ]

    none_fails : (x : K) (ks : List K) → p x ≡ false → AllByRecursion (λ k. p k ≡ true) ks → list_any (same x) ks ≡ false
    none_fails x [] fails all = refl
    none_fails x (k ∷ ks) fails all = either_false (same x k) (list_any (same x) ks) (apart x k fails all.0) (none_fails x ks fails all.1)

    -- one that passes is one of them
    here : (b : Bool) (x : K) (ks : List K) → b ≡ true → list_any (same x) (cond b (x ∷ ks) ks) ≡ true
    here true x ks e = ap (λ (a : Bool). a || list_any (same x) ks) (own x)
    here false x ks e = absurd (false≢true e)

    later : (b : Bool) (x y : K) (ks : List K) → list_any (same y) ks ≡ true → list_any (same y) (cond b (x ∷ ks) ks) ≡ true
    later true x y ks e = ap (λ (a : Bool). same y x || a) e ∙ or_true (same y x)
    later false x y ks e = e

    found : (ks : List K) → AllByRecursion (λ x. p x ≡ true → list_any (same x) (filter p ks) ≡ true) ks
    found [] = tt
    found (x ∷ ks) = (
      here (p x) x (filter p ks),
      all-more (λ y. p y ≡ true → list_any (same y) (filter p ks) ≡ true) (λ y. p y ≡ true → list_any (same y) (cond (p x) (x ∷ filter p ks) (filter p ks)) ≡ true)
          (λ y in_it passes. later (p x) x y (filter p ks) (in_it passes)) ks (found ks),
    )

    tells : (x : K) (old added : List K) → AllByRecursion (λ k. p k ≡ true) (filter p old ++ added) → (p x ≡ true → list_any (same x) (filter p old) ≡ true) → p x ≡ list_any (same x) (filter p old ++ added)
    tells x old added pass in_it = elim (cases_Bool (p x)) [
      | inl passes ↦ passes ∙ sym (list_any-append (same x) (filter p old) added ∙ ap (λ (a : Bool). a || list_any (same x) added) (in_it passes))
      | inr fails ↦ fails ∙ sym (none_fails x (filter p old ++ added) fails pass)
    ]

    -- the items that pass stay, and those behind them pass too
    pub order_filter : (old added : List K) → AllByRecursion (λ k. p k ≡ true) (filter p old ++ added) → KeepsOrder same old (filter p old ++ added)
    order_filter old added pass = (
      added,
      ap (λ ks. ks ++ added) (filter_same p (λ x. list_any (same x) (filter p old ++ added)) old
          (all-more (λ x. p x ≡ true → list_any (same x) (filter p old) ≡ true) (λ x. p x ≡ list_any (same x) (filter p old ++ added)) (λ x in_it. tells x old added pass in_it) old (found old))),
    )

    -- nothing comes behind them
    pub order_chosen : (old : List K) → KeepsOrder same old (filter p old)
    order_chosen old = subst (λ (ks : List K). KeepsOrder same old ks) (append-nil (filter p old)) (order_filter old [] (all-append (λ k. p k ≡ true) (filter p old) [] (all_pass p old) tt))

  pub order_same : (old : List K) → KeepsOrder same old old
  order_same old = subst (λ (ks : List K). KeepsOrder same old ks) (filter_all old) (order_chosen (λ k. true) old)
