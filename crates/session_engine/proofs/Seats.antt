-- What is kept of each number after a change at one place.
use Rattle.std.proofs.Common.{◌≡◌, ◌≢◌, inl, inr, ℕ, true, nat_eq, Option, Some, None, refl, sym, ◌∙◌, ap, subst, if◌then◌else◌}
use Rattle.std.specs.Option.{is_some}
use Rattle.std.specs.Ordering.{nat_cmp}
use Rattle.std.specs.BTreeMap.{BTreeMap, get as place_of}
use Rattle.std.proofs.lemmas.Bool.{cases_eq}
use Rattle.slab.specs.Slab.{Slab, get, Updates, with_value}
use Rattle.slab.proofs.SlabLemmas.{Updates-with_value}
use Rattle.session_engine.specs.Places.{kept_in, number_in, AreSeated}
use Rattle.session_engine.specs.declared.connection.Connection.{Connection as Kept}
use Rattle.session_engine.proofs.Connections.{same, other}

same_number : (q c : ℕ) → Some q ≡ Some c → q ≡ c
same_number q c e = cc

number_some : (slot : Option Kept) (q : ℕ) → number_in slot ≡ Some q → is_some slot ≡ true
number_some None q e = absurd cc
number_some (Some kept) q e = refl

-- a number with a place is live
live_by : (places : BTreeMap ℕ ℕ) (seats : Slab Kept) (q : ℕ) (at : Option ℕ) → place_of nat_cmp places q ≡ at → AreSeated places seats → is_some at ≡ is_some (kept_in seats at)
live_by places seats q None is seated = refl
live_by places seats q (Some place) is seated = sym (number_some (get seats place) q (seated q place is))

pub live : (places : BTreeMap ℕ ℕ) (seats : Slab Kept) (q : ℕ) → AreSeated places seats → is_some (place_of nat_cmp places q) ≡ is_some (kept_in seats (place_of nat_cmp places q))
live places seats q seated = live_by places seats q (place_of nat_cmp places q) refl seated

absent_by : (places : BTreeMap ℕ ℕ) (seats : Slab Kept) (q : ℕ) (at : Option ℕ) → place_of nat_cmp places q ≡ at → AreSeated places seats → kept_in seats at ≡ None → at ≡ None
absent_by places seats q None is seated none = refl
absent_by places seats q (Some place) is seated none =
    let here : number_in None ≡ Some q = subst (λ (slot : Option Kept). number_in slot ≡ Some q) none (seated q place is) in
    absurd cc

-- a number that isn't live has no place
pub absent : (places : BTreeMap ℕ ℕ) (seats : Slab Kept) (q : ℕ) → AreSeated places seats → kept_in seats (place_of nat_cmp places q) ≡ None → place_of nat_cmp places q ≡ None
absent places seats q seated none = absent_by places seats q (place_of nat_cmp places q) refl seated none

same_kept : (kept : Kept) (q : ℕ) → number_in (Some kept) ≡ Some q → kept.conn ≡ q
same_kept kept q e = cc

-- what lies at its place is of the number
pub held_number : (places : BTreeMap ℕ ℕ) (seats : Slab Kept) (q place : ℕ) (kept : Kept) → AreSeated places seats → place_of nat_cmp places q ≡ Some place → get seats place ≡ Some kept → kept.conn ≡ q
held_number places seats q place kept seated held is = same_kept kept q (subst (λ (slot : Option Kept). number_in slot ≡ Some q) is (seated q place held))

-- no number has a place that is vacant
pub apart_vacant : (places : BTreeMap ℕ ℕ) (seats : Slab Kept) (place : ℕ) → AreSeated places seats → get seats place ≡ None → (q p : ℕ) → place_of nat_cmp places q ≡ Some p → p ≢ place
apart_vacant places seats place seated vacant q p is = λ e.
    let here : number_in None ≡ Some q = subst (λ (slot : Option Kept). number_in slot ≡ Some q) (ap (get seats) e ∙ vacant) (seated q p is) in
    absurd cc

-- no other number has the place of this one
pub apart_held : (places : BTreeMap ℕ ℕ) (seats : Slab Kept) (c place : ℕ) → AreSeated places seats → place_of nat_cmp places c ≡ Some place → (q p : ℕ) → q ≢ c → place_of nat_cmp places q ≡ Some p → p ≢ place
apart_held places seats c place seated held q p apart is = λ e.
    apart (same_number q c (sym (seated q p is) ∙ (ap (λ n. number_in (get seats n)) e ∙ seated c place held)))

-- One number has this place now, or none, and what lies there changes at one place, which no other number has.
module _ (places after : BTreeMap ℕ ℕ) (seats new : Slab Kept) (c place : ℕ) (at : Option ℕ) (slot : Option Kept) where
  pub record ChangesSeat : Type 0 where
    pub apart : (q p : ℕ) → q ≢ c → place_of nat_cmp places q ≡ Some p → p ≢ place
    pub places_are : (q : ℕ) → place_of nat_cmp after q ≡ (if nat_eq q c then at else place_of nat_cmp places q)
    pub seats_are : Updates seats new place slot

  kept_elsewhere : ChangesSeat → (q : ℕ) (kept : Option ℕ) → q ≢ c → place_of nat_cmp places q ≡ kept → kept_in new kept ≡ kept_in seats kept
  kept_elsewhere change q None apart is = refl
  kept_elsewhere change q (Some p) apart is = change.seats_are.others p (change.apart q p apart is)

  -- what is kept of each number afterwards
  pub kept_is : ChangesSeat → kept_in new at ≡ slot → (q : ℕ) → kept_in new (place_of nat_cmp after q) ≡ (if nat_eq q c then slot else kept_in seats (place_of nat_cmp places q))
  kept_is change here q = elim (cases_eq q c) [
    | inl e ↦ rw (change.places_are q, same q c e) here
    | inr apart ↦ rw (change.places_are q, other q c apart) (kept_elsewhere change q (place_of nat_cmp places q) apart refl)
  ]

  -- at each place its number's connection lies afterwards
  pub seated_after : AreSeated places seats → ChangesSeat → ((p : ℕ) → at ≡ Some p → number_in (get new p) ≡ Some c) → AreSeated after new
  seated_after seated change here q p is = elim (cases_eq q c) [
    | inl e ↦ subst (λ (n : ℕ). number_in (get new p) ≡ Some n) (sym e) (here p (rw (change.places_are q, same q c e) at is))
    | inr apart ↦
        let was : place_of nat_cmp places q ≡ Some p = rw (change.places_are q, other q c apart) at is in
        ap number_in (change.seats_are.others p (change.apart q p apart was)) ∙ seated q p was
  ]

same_place : (place p : ℕ) → Some place ≡ Some p → place ≡ p
same_place place p e = cc

-- what lies at its number's place
pub seated_here : (new : Slab Kept) (c place : ℕ) (kept : Kept) → get new place ≡ Some kept → kept.conn ≡ c → (p : ℕ) → Some place ≡ Some p → number_in (get new p) ≡ Some c
seated_here new c place kept is number p e = subst (λ (n : ℕ). number_in (get new n) ≡ Some c) (same_place place p e) (ap number_in is ∙ ap Some number)

-- nothing of it is left where it had a place
pub emptied : (places after : BTreeMap ℕ ℕ) (seats new : Slab Kept) (c place : ℕ) → AreSeated places seats → place_of nat_cmp places c ≡ Some place → ((q : ℕ) → place_of nat_cmp after q ≡ (if nat_eq q c then None else place_of nat_cmp places q)) → Updates seats new place None → ChangesSeat places after seats new c place None None
emptied places after seats new c place seated held moved updates = record { apart = apart_held places seats c place seated held; places_are = moved; seats_are = updates }

-- it lies at a place that was vacant
pub filled : (places after : BTreeMap ℕ ℕ) (seats new : Slab Kept) (c place : ℕ) (kept : Kept) → AreSeated places seats → get seats place ≡ None → ((q : ℕ) → place_of nat_cmp after q ≡ (if nat_eq q c then Some place else place_of nat_cmp places q)) → Updates seats new place (Some kept) → ChangesSeat places after seats new c place (Some place) (Some kept)
filled places after seats new c place kept seated vacant moved updates = record { apart = λ q p apart is. apart_vacant places seats place seated vacant q p is; places_are = moved; seats_are = updates }

-- it changes where it is
pub rewritten : (places : BTreeMap ℕ ℕ) (seats : Slab Kept) (c place : ℕ) (kept changed : Kept) → AreSeated places seats → place_of nat_cmp places c ≡ Some place → get seats place ≡ Some kept → ChangesSeat places places seats (with_value seats place changed) c place (Some place) (Some changed)
rewritten places seats c place kept changed seated held is = record {
  apart = apart_held places seats c place seated held;
  places_are = λ q. elim (cases_eq q c) [
    | inl e ↦ rw (same q c e) (ap (place_of nat_cmp places) e ∙ held)
    | inr apart ↦ rw (other q c apart) refl
  ];
  seats_are = Updates-with_value seats place changed (rw is refl);
}
