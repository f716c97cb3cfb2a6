-- No more IDs are known after a book was written than before.
use Rattle.std.proofs.Common.{◌≡◌, refl, ℕ, ◌≤◌, Bool, true, false, cond, not, ◌||◌, List, [], ◌∷◌, ◌++◌, filter, length, sym, ap, subst, ◌∙◌, arith}
use Rattle.std.specs.Prelude.{Option, Some, is_some, find, filter_map}
use Rattle.std.specs.List.{AllByRecursion, IsDistinct}
use Rattle.std.specs.Str.{bytes_eq}
use Rattle.std.specs.Cmp.{IsEquivalence, nat_eq_equiv}
use Rattle.std.specs.Cmp.Lexicographic.{same_text, lists_equiv}
use Rattle.checkpoint_records.specs.declared.records.Entry.{Entry}
use Rattle.checkpoint_records.specs.Rules.{ids_of}
use Rattle.session_model.specs.Tables.{has_id, is_of}
use Rattle.session_model.specs.Moves.{History}
use Rattle.session_model.specs.Readings as of
use Rattle.session_model.proofs.Left.{within-by}
use Rattle.session_model.proofs.Sound.{or-after, or-either, or-true}
use Rattle.session_model.proofs.Pending.{distinct-filter}
use Rattle.session_model.proofs.Known.{distinct-append}
use Rattle.session_model.proofs.NextIds.{apart-unrecorded, swap-all}

-- A list without twins whose items are all in another is no longer than that one

bytes_equiv : IsEquivalence bytes_eq
bytes_equiv = lists_equiv nat_eq_equiv

pub within : (xs ys : List (List ℕ)) → IsDistinct bytes_eq xs → ((q : List ℕ) → has_id q xs ≡ true → has_id q ys ≡ true) → length xs ≤ length ys
within xs ys d k = within-by bytes_eq bytes_equiv xs ys d k

-- The known IDs

abbrev pub held_ids : History → List (List ℕ)
held_ids h = filter_map (λ c. of.id_of c h) (of.registered h)

abbrev pub known_with : List Entry → List (List ℕ) → List (List ℕ)
known_with entries held = ids_of entries ++ filter (λ id. not (is_some (find (is_of id) entries))) held

-- an ID is recorded where an entry has it
recorded-at : (b a : Bool) (entry : Entry) (o : Option Entry) → is_some o ≡ a → is_some (cond b (Some entry) o) ≡ (b || a)
recorded-at true a entry o e = refl
recorded-at false a entry o e = e

pub recorded-has : (q : List ℕ) (entries : List Entry) → is_some (find (is_of q) entries) ≡ has_id q (ids_of entries)
recorded-has q [] = refl
recorded-has q (entry ∷ entries) = recorded-at (is_of q entry) (has_id q (ids_of entries)) entry (find (is_of q) entries) (recorded-has q entries)

pub has-append : (q : List ℕ) (xs ys : List (List ℕ)) → has_id q (xs ++ ys) ≡ (has_id q xs || has_id q ys)
has-append q [] ys = refl
has-append q (x ∷ xs) ys = ap (λ (b : Bool). bytes_eq q x || b) (has-append q xs ys) ∙ assoc (bytes_eq q x) (has_id q xs) (has_id q ys) where
  assoc : (x y z : Bool) → (x || (y || z)) ≡ ((x || y) || z)
  assoc true y z = refl
  assoc false y z = refl

-- what is kept by a test that this ID passes is kept
has-filter : (q : List ℕ) (test : List ℕ → Bool) (xs : List (List ℕ)) → test q ≡ true → has_id q xs ≡ true → has_id q (filter test xs) ≡ true
has-filter q test [] t e = e
has-filter q test (x ∷ xs) t e = has-at (bytes_eq q x) (test x) refl refl e (has-filter q test xs t) where
  has-at : (b a : Bool) → bytes_eq q x ≡ b → test x ≡ a → (b || has_id q xs) ≡ true → (has_id q xs ≡ true → has_id q (filter test xs) ≡ true) → has_id q (cond a (x ∷ filter test xs) (filter test xs)) ≡ true
  has-at true true s u e k = ap (λ (c : Bool). c || has_id q (filter test xs)) s
  has-at true false s u e k = let same : q ≡ x = same_text q x (sym s) in absurd (no-both (test x) (subst (λ (y : List ℕ). test y ≡ true) same t) u) where
    no-both : (c : Bool) → c ≡ true → c ≡ false → ⊥
    no-both c e f = grind arith
  has-at false true s u e k = ap (λ (c : Bool). bytes_eq q x || c) (k e) ∙ or-true (bytes_eq q x)
  has-at false false s u e k = k e

had-at : (q x : List ℕ) (a : Bool) (ys xs : List (List ℕ)) → (has_id q ys ≡ true → has_id q xs ≡ true) → has_id q (cond a (x ∷ ys) ys) ≡ true → (bytes_eq q x || has_id q xs) ≡ true
had-at q x true ys xs k e = or-after (bytes_eq q x) (has_id q ys) (has_id q xs) k e
had-at q x false ys xs k e = ap (λ (b : Bool). bytes_eq q x || b) (k e) ∙ or-true (bytes_eq q x)

-- an ID that is kept was there
filter-has : (q : List ℕ) (test : List ℕ → Bool) (xs : List (List ℕ)) → has_id q (filter test xs) ≡ true → has_id q xs ≡ true
filter-has q test [] e = e
filter-has q test (x ∷ xs) e = had-at q x (test x) (filter test xs) xs (filter-has q test xs) e

-- who is recorded or held is known
pub known-in : (q : List ℕ) (entries : List Entry) (held : List (List ℕ)) → (has_id q (ids_of entries) || has_id q held) ≡ true → has_id q (known_with entries held) ≡ true
known-in q entries held e =
    has-append q (ids_of entries) (filter (λ id. not (is_some (find (is_of id) entries))) held) ∙ known-at (has_id q (ids_of entries)) refl e where
      known-at : (b : Bool) → has_id q (ids_of entries) ≡ b → (b || has_id q held) ≡ true → (has_id q (ids_of entries) || has_id q (filter (λ id. not (is_some (find (is_of id) entries))) held)) ≡ true
      known-at true s e = ap (λ (c : Bool). c || has_id q (filter (λ id. not (is_some (find (is_of id) entries))) held)) s
      known-at false s e = ap (λ (c : Bool). has_id q (ids_of entries) || c) (has-filter q (λ id. not (is_some (find (is_of id) entries))) held (ap (λ (c : Bool). not c) (recorded-has q entries ∙ s)) e) ∙ or-true (has_id q (ids_of entries))

pub in-known : (q : List ℕ) (entries : List Entry) (held : List (List ℕ)) → has_id q (known_with entries held) ≡ true → (has_id q (ids_of entries) || has_id q held) ≡ true
in-known q entries held e =
    or-either (has_id q (ids_of entries)) (has_id q (filter (λ id. not (is_some (find (is_of id) entries))) held))
    (λ s. ap (λ (c : Bool). c || has_id q held) s)
    (λ s. ap (λ (c : Bool). has_id q (ids_of entries) || c) (filter-has q (λ id. not (is_some (find (is_of id) entries))) held s) ∙ or-true (has_id q (ids_of entries)))
    (sym (has-append q (ids_of entries) (filter (λ id. not (is_some (find (is_of id) entries))) held)) ∙ e)

-- nothing is known twice

unrecorded-at : (entries : List Entry) (y : List ℕ) (b : Bool) (ys : List (List ℕ)) → is_some (find (is_of y) entries) ≡ b → AllByRecursion (λ z. AllByRecursion (λ x. bytes_eq x z ≡ false) (ids_of entries)) ys
    → AllByRecursion (λ z. AllByRecursion (λ x. bytes_eq x z ≡ false) (ids_of entries)) (cond (not b) (y ∷ ys) ys)
unrecorded-at entries y true ys s a = a
unrecorded-at entries y false ys s a = (apart-unrecorded y entries s, a)

unrecorded-apart : (entries : List Entry) (held : List (List ℕ)) → AllByRecursion (λ y. AllByRecursion (λ x. bytes_eq x y ≡ false) (ids_of entries)) (filter (λ id. not (is_some (find (is_of id) entries))) held)
unrecorded-apart entries [] = tt
unrecorded-apart entries (y ∷ held) = unrecorded-at entries y (is_some (find (is_of y) entries)) (filter (λ id. not (is_some (find (is_of id) entries))) held) refl (unrecorded-apart entries held)

pub known-distinct : (entries : List Entry) (held : List (List ℕ)) → IsDistinct bytes_eq (ids_of entries) → IsDistinct bytes_eq held → IsDistinct bytes_eq (known_with entries held)
known-distinct entries held d e =
    distinct-append (ids_of entries) (filter (λ id. not (is_some (find (is_of id) entries))) held) d (distinct-filter bytes_eq (λ id. not (is_some (find (is_of id) entries))) held e)
    (swap-all (ids_of entries) (filter (λ id. not (is_some (find (is_of id) entries))) held) (unrecorded-apart entries held))

-- Entries that come from what is known are no more than what is known
pub room-kept : (old new : List Entry) (held : List (List ℕ)) → IsDistinct bytes_eq (ids_of new) → IsDistinct bytes_eq held → ((q : List ℕ) → has_id q (ids_of new) ≡ true → (has_id q (ids_of old) || has_id q held) ≡ true)
    → length (known_with new held) ≤ length (known_with old held)
room-kept old new held d e k =
    within (known_with new held) (known_with old held) (known-distinct new held d e)
    (λ q i. known-in q old held (or-either (has_id q (ids_of new)) (has_id q held) (k q) (λ s. ap (λ (c : Bool). has_id q (ids_of old) || c) s ∙ or-true (has_id q (ids_of old))) (in-known q new held i)))
