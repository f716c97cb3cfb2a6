-- What becomes of the entries of a book: each keeps its ID or goes, and others come behind them.
use Rattle.std.proofs.Common.{◌≡◌, ℕ, Bool, true, false, cond, ◌||◌, List, [], ◌∷◌, ◌++◌, refl, sym, ap, ap₂, ◌∙◌, subst}
use Rattle.std.proofs.lemmas.List.Folds.{list_any-append}
use Rattle.std.specs.Prelude.{Option, None, Some, is_some, filter, filter_map}
use Rattle.std.specs.List.{AllByRecursion, IsDistinct, cons_option, list_any}
use Rattle.std.specs.Str.{bytes_eq}
use Rattle.xsmp_properties.proofs.TableLaws.{differs}
use Rattle.checkpoint_changes.specs.Plain.{KeepsOrder}
use Rattle.checkpoint_records.specs.Rules.{ids_of}
use Rattle.checkpoint_records.specs.declared.records.Entry.{Entry}
use Rattle.checkpoint_records.proofs.DistinctLaws.{same_none}
use Rattle.round_agreement.specs.Agreement.{Agreement, conns_of}
use Rattle.session_model.specs.Books.{new_entry, next_entries, next_entry}
use Rattle.session_model.specs.Moves.{History}
use Rattle.session_model.specs.Reading.{reading}
use Rattle.session_model.specs.Readings as of
use Rattle.session_model.proofs.Known.{distinct-head, distinct-tail, entry_id}
use Rattle.session_model.proofs.NextIds.{apart-unrecorded, new-is, new_ids, next-ids, old-id, swap-all}
use Rattle.session_model.proofs.Pending.{all-more}
use Rattle.session_model.proofs.Ruly.{own_text}
use Rattle.book_order.proofs.Filters.{either_false}

-- What is made of each entry is its ID, or nothing.
module _ (f : Entry → Option (List ℕ)) (own : (entry : Entry) (id : List ℕ) → f entry ≡ Some id → id ≡ entry.id) where
  none_at : (id : List ℕ) (e : Entry) (ids : List (List ℕ)) (made : Option (List ℕ)) → f e ≡ made → bytes_eq id e.id ≡ false → list_any (bytes_eq id) ids ≡ false → list_any (bytes_eq id) (cons_option made ids) ≡ false
  none_at id e ids None is apart none = none
  none_at id e ids (Some x) is apart none = either_false (bytes_eq id x) (list_any (bytes_eq id) ids) (ap (bytes_eq id) (own e x is) ∙ apart) none

  -- an ID of no entry isn't made
  none_made : (id : List ℕ) (entries : List Entry) → AllByRecursion (λ y. bytes_eq id y ≡ false) (ids_of entries) → list_any (bytes_eq id) (filter_map f entries) ≡ false
  none_made id [] apart = refl
  none_made id (e ∷ entries) apart = none_at id e (filter_map f entries) (f e) refl apart.0 (none_made id entries apart.1)

  first_at : (e : Entry) (entries : List Entry) (made : Option (List ℕ)) → f e ≡ made → AllByRecursion (λ y. bytes_eq e.id y ≡ false) (ids_of entries) → list_any (bytes_eq e.id) (cons_option made (filter_map f entries)) ≡ is_some made
  first_at e entries None is apart = none_made e.id entries apart
  first_at e entries (Some x) is apart = ap (λ (b : Bool). b || list_any (bytes_eq e.id) (filter_map f entries)) (ap (bytes_eq e.id) (own e x is) ∙ own_text e.id)

  later_at : (e y : Entry) (ids : List (List ℕ)) (made : Option (List ℕ)) (b : Bool) → f e ≡ made → bytes_eq e.id y.id ≡ false → list_any (bytes_eq y.id) ids ≡ b → list_any (bytes_eq y.id) (cons_option made ids) ≡ b
  later_at e y ids None b is apart there = there
  later_at e y ids (Some x) b is apart there = ap (λ (a : Bool). a || list_any (bytes_eq y.id) ids) (ap (bytes_eq y.id) (own e x is) ∙ differs e.id y.id apart) ∙ there

  later_all : (e : Entry) (ids : List (List ℕ)) (entries : List Entry) → AllByRecursion (λ y. bytes_eq e.id y ≡ false) (ids_of entries) → AllByRecursion (λ y. list_any (bytes_eq y.id) ids ≡ is_some (f y)) entries → AllByRecursion (λ y. list_any (bytes_eq y.id) (cons_option (f e) ids) ≡ is_some (f y)) entries
  later_all e ids [] apart there = tt
  later_all e ids (y ∷ entries) apart there = (later_at e y ids (f e) (is_some (f y)) refl apart.0 there.0, later_all e ids entries apart.1 there.1)

  -- the ID of an entry is among those that are made exactly where the entry stays
  made_own : (entries : List Entry) → IsDistinct bytes_eq (ids_of entries) → AllByRecursion (λ y. list_any (bytes_eq y.id) (filter_map f entries) ≡ is_some (f y)) entries
  made_own [] differ = tt
  made_own (e ∷ entries) differ = (
    first_at e entries (f e) refl (distinct-head e.id (ids_of entries) differ),
    later_all e (filter_map f entries) entries (distinct-head e.id (ids_of entries) differ) (made_own entries (distinct-tail e.id (ids_of entries) differ)),
  )

  or_false : (a b : Bool) → b ≡ false → (a || b) ≡ a
  or_false true b e = refl
  or_false false b e = e

  -- so it is where others come behind them that are of no entry
  made_all : (ids added : List (List ℕ)) (entries : List Entry) → AllByRecursion (λ id. list_any (bytes_eq id) added ≡ false) (ids_of entries) → AllByRecursion (λ y. list_any (bytes_eq y.id) ids ≡ is_some (f y)) entries → AllByRecursion (λ y. list_any (bytes_eq y.id) (ids ++ added) ≡ is_some (f y)) entries
  made_all ids added [] apart there = tt
  made_all ids added (y ∷ entries) apart there =
      (list_any-append (bytes_eq y.id) ids added ∙ (or_false (list_any (bytes_eq y.id) ids) (list_any (bytes_eq y.id) added) apart.0 ∙ there.0), made_all ids added entries apart.1 there.1)

  chosen_at : (e : Entry) (b : Bool) (made : Option (List ℕ)) (xs ys : List (List ℕ)) → f e ≡ made → b ≡ is_some made → xs ≡ ys → cons_option made xs ≡ cond b (e.id ∷ ys) ys
  chosen_at e true None xs ys is tells same = absurd cc
  chosen_at e false (Some x) xs ys is tells same = absurd cc
  chosen_at e true (Some x) xs ys is tells same = ap₂ (λ (z : List ℕ) (zs : List (List ℕ)). z ∷ zs) (own e x is) same
  chosen_at e false None xs ys is tells same = same

  chosen : (test : List ℕ → Bool) (entries : List Entry) → AllByRecursion (λ y. test y.id ≡ is_some (f y)) entries → filter_map f entries ≡ filter test (ids_of entries)
  chosen test [] tells = refl
  chosen test (e ∷ entries) tells = chosen_at e (test e.id) (f e) (filter_map f entries) (filter test (ids_of entries)) refl tells.0 (chosen test entries tells.1)

  pub order_made : (entries : List Entry) (added : List (List ℕ)) → IsDistinct bytes_eq (ids_of entries) → AllByRecursion (λ id. list_any (bytes_eq id) added ≡ false) (ids_of entries) → KeepsOrder bytes_eq (ids_of entries) (filter_map f entries ++ added)
  order_made entries added differ apart = (
    added,
    ap (λ ids. ids ++ added) (chosen (λ id. list_any (bytes_eq id) (filter_map f entries ++ added)) entries (made_all (filter_map f entries) added entries apart (made_own entries differ))),
  )

-- The entries of an agreement

apart_cons : (ids : List (List ℕ)) (made : Option (List ℕ)) (rest : List (List ℕ)) → ((id : List ℕ) → made ≡ Some id → AllByRecursion (λ x. bytes_eq x id ≡ false) ids) → AllByRecursion (λ y. AllByRecursion (λ x. bytes_eq x y ≡ false) ids) rest → AllByRecursion (λ y. AllByRecursion (λ x. bytes_eq x y ≡ false) ids) (cons_option made rest)
apart_cons ids None rest apart all = all
apart_cons ids (Some id) rest apart all = (apart id refl, all)

apart_all : {A : Type 0} (f : A → Option (List ℕ)) (ids : List (List ℕ)) (xs : List A) → ((x : A) (id : List ℕ) → f x ≡ Some id → AllByRecursion (λ y. bytes_eq y id ≡ false) ids) → AllByRecursion (λ y. AllByRecursion (λ x. bytes_eq x y ≡ false) ids) (filter_map f xs)
apart_all f ids [] apart = tt
apart_all f ids (x ∷ xs) apart = apart_cons ids (f x) (filter_map f xs) (apart x) (apart_all f ids xs apart)

-- the new entries have IDs of none of the old ones
new_apart : (h : History) (round : Agreement) → AllByRecursion (λ id. list_any (bytes_eq id) (new_ids h round) ≡ false) (ids_of (of.book h).entries)
new_apart h round =
    let ids : List (List ℕ) = ids_of (of.book h).entries in
    all-more (λ x. AllByRecursion (λ y. bytes_eq x y ≡ false) (new_ids h round)) (λ x. list_any (bytes_eq x) (new_ids h round) ≡ false) (λ x apart. same_none bytes_eq x (new_ids h round) apart) ids
    (swap-all ids (new_ids h round)
    (apart_all (λ c. entry_id (new_entry (reading h) c)) ids (conns_of round.members) (λ c id is. apart-unrecorded id (of.book h).entries (new-is h c id is).unrecorded)))

pub order_next_entries : (h : History) (round : Agreement) → IsDistinct bytes_eq (ids_of (of.book h).entries) → KeepsOrder bytes_eq (ids_of (of.book h).entries) (ids_of (next_entries (reading h) round))
order_next_entries h round differ =
    subst (λ (ids : List (List ℕ)). KeepsOrder bytes_eq (ids_of (of.book h).entries) ids) (sym (next-ids h round))
    (order_made (λ (entry : Entry). entry_id (next_entry (reading h) round entry)) (old-id h round) (of.book h).entries (new_ids h round) differ (new_apart h round))
