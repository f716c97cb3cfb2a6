-- Books that are made keep the rules.
use Rattle.std.proofs.Common.{◌≡◌, refl, ℕ, suc, ◌≤◌, Bool, true, false, cond, not, ◌||◌, List, [], ◌∷◌, ◌++◌, filter, length, sym, ap, subst, ◌∙◌, arith, length-append}
use Rattle.std.specs.Prelude.{Option, Some, None, is_some, find, filter_map}
use Rattle.std.specs.List.{AllByRecursion, IsDistinct, cons_option}
use Rattle.std.specs.Str.{bytes_eq}
use Rattle.std.specs.Cmp.Lexicographic.{same_text}
use Rattle.std.proofs.lemmas.List.{map-append}
use Rattle.checkpoint_records.specs.Books.{all_entries, entries_in}
use Rattle.checkpoint_records.specs.declared.records.Entry.{Entry}
use Rattle.checkpoint_records.specs.Rules.{ids_of, IsEntry, KeepsRules}
use Rattle.round_agreement.specs.Agreement.{Agreement, conns_of}
use Rattle.session_model.specs.Tables.{has_id, is_of}
use Rattle.session_model.specs.Moves.{History}
use Rattle.session_model.specs.Readings as of
use Rattle.session_model.specs.Reading.{reading}
use Rattle.session_model.specs.Books.{next_entry, new_entry, next_entries, next_book, book_forgetting}
use Rattle.session_model.proofs.Lists.{Once}
use Rattle.session_model.proofs.Sound.{or-true, or-either}
use Rattle.session_model.proofs.Propers.{is-next, is-forgetting}
use Rattle.checkpoint_records.proofs.DistinctLaws.{any_false, distinct_split}
use Rattle.session_model.proofs.Tidy.{Tidy, chosen-tidy}
use Rattle.session_model.proofs.Pending.{filter-len, Sources, rules-next}
use Rattle.session_model.proofs.Known.{entry_id, distinct-append, distinct-head, distinct-tail, distinct-cons}
use Rattle.session_model.proofs.NextIds.{old_ids, new_ids, next-ids, old-id, new-is, next-distinct}
use Rattle.session_model.proofs.Room.{held_ids, known_with, has-append}
use Rattle.session_model.proofs.Ruly.{Ruly, IsKnown, held-by, held-in, own_text}

-- What is known of the entries of the next book

old-has : (f : Entry → Option (List ℕ)) (q : List ℕ) (entries : List Entry) → ((entry : Entry) (id : List ℕ) → f entry ≡ Some id → id ≡ entry.id) → has_id q (filter_map f entries) ≡ true → has_id q (ids_of entries) ≡ true
old-has f q [] k e = e
old-has f q (entry ∷ entries) k e = old-at (f entry) refl e (old-has f q entries k) where
  old-at : (o : Option (List ℕ)) → f entry ≡ o → has_id q (cons_option o (filter_map f entries)) ≡ true → (has_id q (filter_map f entries) ≡ true → has_id q (ids_of entries) ≡ true) → (bytes_eq q entry.id || has_id q (ids_of entries)) ≡ true
  old-at None s e g = ap (λ (b : Bool). bytes_eq q entry.id || b) (g e) ∙ or-true (bytes_eq q entry.id)
  old-at (Some id) s e g =
      or-either (bytes_eq q id) (has_id q (filter_map f entries)) (λ t. ap (λ (b : Bool). b || has_id q (ids_of entries)) (sym (ap (λ (x : List ℕ). bytes_eq q x) (k entry id s)) ∙ t))
      (λ t. ap (λ (b : Bool). bytes_eq q entry.id || b) (g t) ∙ or-true (bytes_eq q entry.id)) e

pub next-known : (h : History) (round : Agreement) (q : List ℕ) → has_id q (ids_of (next_entries (reading h) round)) ≡ true → IsKnown q h
next-known h round q e =
    or-either (has_id q (old_ids h round)) (has_id q (new_ids h round))
    (λ s. ap (λ (b : Bool). b || has_id q (held_ids h)) (old-has (λ (entry : Entry). entry_id (next_entry (reading h) round entry)) q (of.book h).entries (old-id h round) s))
    (λ s. let c : (c : ℕ) × (entry_id (new_entry (reading h) c) ≡ Some q) = held-by (λ x. entry_id (new_entry (reading h) x)) q (conns_of round.members) s in
    ap (λ (b : Bool). has_id q (ids_of (of.book h).entries) || b) (held-in c.0 q h (new-is h c.0 q c.1).held_is) ∙ or-true (has_id q (ids_of (of.book h).entries)))
    (sym (has-append q (old_ids h round) (new_ids h round)) ∙ sym (ap (λ (xs : List (List ℕ)). has_id q xs) (next-ids h round)) ∙ e)

-- The entries that stay when one is forgotten

kept-has : (test : Entry → Bool) (q : List ℕ) (entries : List Entry) → has_id q (ids_of (filter test entries)) ≡ true → has_id q (ids_of entries) ≡ true
kept-has test q [] e = e
kept-has test q (entry ∷ entries) e = kept-at (test entry) e (kept-has test q entries) where
  kept-at : (b : Bool) → has_id q (ids_of (cond b (entry ∷ filter test entries) (filter test entries))) ≡ true → (has_id q (ids_of (filter test entries)) ≡ true → has_id q (ids_of entries) ≡ true) → (bytes_eq q entry.id || has_id q (ids_of entries)) ≡ true
  kept-at true e g = or-either (bytes_eq q entry.id) (has_id q (ids_of (filter test entries))) (λ t. ap (λ (b : Bool). b || has_id q (ids_of entries)) t) (λ t. ap (λ (b : Bool). bytes_eq q entry.id || b) (g t) ∙ or-true (bytes_eq q entry.id)) e
  kept-at false e g = ap (λ (b : Bool). bytes_eq q entry.id || b) (g e) ∙ or-true (bytes_eq q entry.id)

kept-apart : (test : Entry → Bool) (x : List ℕ) (entries : List Entry) → AllByRecursion (λ y. bytes_eq x y ≡ false) (ids_of entries) → AllByRecursion (λ y. bytes_eq x y ≡ false) (ids_of (filter test entries))
kept-apart test x [] a = tt
kept-apart test x (entry ∷ entries) a = apart-at (test entry) (kept-apart test x entries a.1) where
  apart-at : (b : Bool) → AllByRecursion (λ y. bytes_eq x y ≡ false) (ids_of (filter test entries)) → AllByRecursion (λ y. bytes_eq x y ≡ false) (ids_of (cond b (entry ∷ filter test entries) (filter test entries)))
  apart-at true k = (a.0, k)
  apart-at false k = k

kept-distinct : (test : Entry → Bool) (entries : List Entry) → IsDistinct bytes_eq (ids_of entries) → IsDistinct bytes_eq (ids_of (filter test entries))
kept-distinct test [] d = d
kept-distinct test (entry ∷ entries) d = distinct-at (test entry) (kept-distinct test entries (distinct-tail entry.id (ids_of entries) d)) where
  distinct-at : (b : Bool) → IsDistinct bytes_eq (ids_of (filter test entries)) → IsDistinct bytes_eq (ids_of (cond b (entry ∷ filter test entries) (filter test entries)))
  distinct-at true k = distinct-cons entry.id (ids_of (filter test entries)) (kept-apart test entry.id entries (distinct-head entry.id (ids_of entries) d)) k
  distinct-at false k = k

-- How many entries

pub length-ids : (entries : List Entry) → length (ids_of entries) ≡ length entries
length-ids [] = refl
length-ids (entry ∷ entries) = ap suc (length-ids entries)

entries-known : (entries : List Entry) (held : List (List ℕ)) → length entries ≤ length (known_with entries held)
entries-known entries held = omega (arith, length-append (ids_of entries) (filter (λ id. not (is_some (find (is_of id) entries))) held), length-ids entries)

-- The books

sources : (epoch : ℕ) (h : History) → (of.book h).epoch ≡ epoch → Tidy epoch h → Ruly epoch h → length (of.book h).pending ≤ 64 → Sources (of.book h).epoch (of.book h).pending (of.book h).entries (of.strays h)
sources epoch h e t r p = record {
  of_pending = r.commands;
  of_old = subst (λ (n : ℕ). AllByRecursion (IsEntry n) (of.book h).entries) (sym e) (chosen-tidy epoch h t);
  of_strays = r.strays;
  few = omega (arith, p, r.few_strays, r.room, entries-known (all_entries (of.book h)) (held_ids h), length-append (of.book h).entries (entries_in (of.book h).others));
}

few-next : (epoch : ℕ) (h : History) (new : List Entry) (held : List (List ℕ)) → length (known_with new held) ≤ 128 → length new ≤ 128
few-next epoch h new held k = omega (arith, k, entries-known new held)

-- IDs of sessions

lacks-all : (x : List ℕ) (ids : List (List ℕ)) → has_id x ids ≡ false → AllByRecursion (λ y. bytes_eq x y ≡ false) ids
lacks-all x [] e = tt
lacks-all x (y ∷ ids) e = (let parts = any_false (bytes_eq x y) (has_id x ids) e in (parts.0, lacks-all x ids parts.1))

each-apart : (new : List Entry) (ids : List (List ℕ)) → ((q : List ℕ) → has_id q (ids_of new) ≡ true → has_id q ids ≡ false) → AllByRecursion (λ x. AllByRecursion (λ y. bytes_eq x y ≡ false) ids) (ids_of new)
each-apart [] ids k = tt
each-apart (entry ∷ new) ids k = (
  lacks-all entry.id ids (k entry.id (ap (λ (b : Bool). b || has_id entry.id (ids_of new)) (own_text entry.id))),
  each-apart new ids (λ q e. k q (ap (λ (b : Bool). bytes_eq q entry.id || b) e ∙ or-true (bytes_eq q entry.id))),
)

ids-parts : (entries others : List Entry) → ids_of (entries ++ others) ≡ ids_of entries ++ ids_of others
ids-parts entries others = map-append (λ (entry : Entry). entry.id) entries others

pub chosen-differ : (entries others : List Entry) → IsDistinct bytes_eq (ids_of (entries ++ others)) → IsDistinct bytes_eq (ids_of entries)
chosen-differ entries others d = (distinct_split bytes_eq (ids_of entries) (ids_of others) (subst (λ (ids : List (List ℕ)). IsDistinct bytes_eq ids) (ids-parts entries others) d)).0

-- entries that are known beside those of the other sessions
pub all-differ : (epoch : ℕ) (h : History) (new : List Entry) → Ruly epoch h → IsDistinct bytes_eq (ids_of new) → ((q : List ℕ) → has_id q (ids_of new) ≡ true → IsKnown q h) → IsDistinct bytes_eq (ids_of (new ++ entries_in (of.book h).others))
all-differ epoch h new r d known =
    let others : List Entry = entries_in (of.book h).others in
    let parts = distinct_split bytes_eq (ids_of (of.book h).entries) (ids_of others) (subst (λ (ids : List (List ℕ)). IsDistinct bytes_eq ids) (ids-parts (of.book h).entries others) r.ids_differ) in
    subst (λ (ids : List (List ℕ)). IsDistinct bytes_eq ids) (sym (ids-parts new others)) (distinct-append (ids_of new) (ids_of others) d parts.1 (each-apart new (ids_of others) (λ q e. r.apart q (known q e))))

-- an ID of the first entries is none of those from which they differ
none-same : (x : List ℕ) (ids : List (List ℕ)) → AllByRecursion (λ y. bytes_eq x y ≡ false) ids → has_id x ids ≡ false
none-same x [] a = refl
none-same x (y ∷ ids) a = ap (λ (b : Bool). b || has_id x ids) a.0 ∙ none-same x ids a.1

apart-in : (q : List ℕ) (xs ys : List (List ℕ)) → AllByRecursion (λ x. AllByRecursion (λ y. bytes_eq x y ≡ false) ys) xs → has_id q xs ≡ true → has_id q ys ≡ false
apart-in q [] ys a e = absurd (grind arith)
apart-in q (x ∷ xs) ys a e =
    or-either (bytes_eq q x) (has_id q xs) (λ s. ap (λ (k : List ℕ). has_id k ys) (same_text q x (sym s)) ∙ none-same x ys a.0) (λ s. apart-in q xs ys a.1 s) e

pub apart-of : (entries others : List Entry) (q : List ℕ) → IsDistinct bytes_eq (ids_of (entries ++ others)) → has_id q (ids_of entries) ≡ true → has_id q (ids_of others) ≡ false
apart-of entries others q d e = apart-in q (ids_of entries) (ids_of others) (distinct_split bytes_eq (ids_of entries) (ids_of others) (subst (λ (ids : List (List ℕ)). IsDistinct bytes_eq ids) (ids-parts entries others) d)).2 e

-- no two entries of the next book have the same ID
pub next-differ : (epoch : ℕ) (h : History) (round : Agreement) → Ruly epoch h → Once (conns_of round.members) → IsDistinct bytes_eq (ids_of (all_entries (next_book (reading h) round)))
next-differ epoch h round r o =
    all-differ epoch h (next_entries (reading h) round) r (next-distinct h round r.own o (chosen-differ (of.book h).entries (entries_in (of.book h).others) r.ids_differ)) (next-known h round)

pub rules-next_book : (epoch : ℕ) (h : History) (round : Agreement) → (of.book h).epoch ≡ epoch → Tidy epoch h → Ruly epoch h → length (of.book h).pending ≤ 64 → Once (conns_of round.members) → length (known_with (all_entries (next_book (reading h) round)) (held_ids h)) ≤ 128
    → KeepsRules (next_book (reading h) round)
rules-next_book epoch h round e t r p o k =
    rules-next epoch (of.book h).epoch (of.book h).pending (of.book h).entries (of.strays h) (next_entries (reading h) round) (of.book h).name (of.book h).others (sources epoch h e t r p)
    (subst (λ (n : ℕ). AllByRecursion (IsEntry n) (all_entries (next_book (reading h) round))) (sym e) (is-next epoch h round e t).1)
    (next-differ epoch h round r o) (few-next epoch h (all_entries (next_book (reading h) round)) (held_ids h) k) r.beside

pub forgetting-known : (h : History) (id q : List ℕ) → has_id q (ids_of (book_forgetting (reading h).store id).entries) ≡ true → IsKnown q h
forgetting-known h id q e = ap (λ (b : Bool). b || has_id q (held_ids h)) (kept-has (λ entry. not (is_of id entry)) q (of.book h).entries e)

pub rules-forgetting : (epoch : ℕ) (h : History) (id : List ℕ) → (of.book h).epoch ≡ epoch → Tidy epoch h → Ruly epoch h → length (of.book h).pending ≤ 64 → KeepsRules (book_forgetting (reading h).store id)
rules-forgetting epoch h id e t r p =
    let left : List Entry = filter (λ entry. not (is_of id entry)) (of.book h).entries in
    let others : List Entry = entries_in (of.book h).others in
    rules-next epoch (of.book h).epoch (of.book h).pending (of.book h).entries (of.strays h) left (of.book h).name (of.book h).others (sources epoch h e t r p)
    (subst (λ (n : ℕ). AllByRecursion (IsEntry n) (left ++ others)) (sym e) (is-forgetting epoch h id e t).1)
    (all-differ epoch h left r (kept-distinct (λ entry. not (is_of id entry)) (of.book h).entries (chosen-differ (of.book h).entries others r.ids_differ)) (forgetting-known h id))
    (omega (arith, filter-len (λ (entry : Entry). not (is_of id entry)) (of.book h).entries, r.room, entries-known (all_entries (of.book h)) (held_ids h), length-append left others, length-append (of.book h).entries others)) r.beside
