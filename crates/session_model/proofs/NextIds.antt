-- The entries of the next book have IDs of their own, and no more IDs are known then than before.
use Rattle.std.proofs.Common.{◌≡◌, refl, ℕ, Bool, true, false, cond, List, [], ◌∷◌, ◌++◌, sym, ap, subst, ◌∙◌, arith}
use Rattle.std.specs.Prelude.{Option, Some, None, is_some, find, filter_map}
use Rattle.std.specs.List.{AllByRecursion, IsDistinct, cons_option}
use Rattle.std.specs.Str.{bytes_eq}
use Rattle.xsmp_properties.proofs.TableLaws.{differs}
use Rattle.ice_values.specs.declared.property.Property.{Property}
use Rattle.checkpoint_records.specs.declared.records.Book.{Book}
use Rattle.checkpoint_records.specs.declared.records.Entry.{Entry}
use Rattle.checkpoint_records.specs.Rules.{ids_of}
use Rattle.round_agreement.specs.Agreement.{Agreement, conns_of}
use Rattle.session_model.specs.Tables.{is_of, is_recorded}
use Rattle.session_model.specs.Moves.{History}
use Rattle.session_model.specs.Readings as of
use Rattle.session_model.specs.Reading.{Reading, reading, client_of}
use Rattle.session_model.specs.Books.{is_eligible, recorded, is_kept, snapshot, entry_saved, entry_for, next_entry, new_saved, new_entry, next_entries}
use Rattle.session_model.proofs.Lists.{Once}
use Rattle.session_model.proofs.Names.{AreOwn}
use Rattle.session_model.proofs.Known.{entry_id, ids-map, distinct-conns, distinct-entries, distinct-append}

-- What an entry becomes keeps its ID

id-recorded : (b : Bool) (id : List ℕ) (table : List Property) (x : List ℕ) → entry_id (cond b (Some (record { id = id; table = table })) None) ≡ Some x → x ≡ id
id-recorded true id table x e = cc
id-recorded false id table x e = absurd (grind arith)

id-kept : (b : Bool) (entry : Entry) (x : List ℕ) → entry_id (cond b (Some entry) None) ≡ Some x → x ≡ entry.id
id-kept true entry x e = cc
id-kept false entry x e = absurd (grind arith)

id-saved : (entry : Entry) (saved : Option (List Property)) (x : List ℕ) → entry_id (entry_saved entry saved) ≡ Some x → x ≡ entry.id
id-saved entry None x e = cc
id-saved entry (Some table) x e = id-recorded (is_eligible table) entry.id table x e

id-for : (r : Reading) (round : Agreement) (entry : Entry) (c : Option ℕ) (x : List ℕ) → entry_id (entry_for r round entry c) ≡ Some x → x ≡ entry.id
id-for r round entry None x e = id-kept (is_kept r round.wanted.shutdown entry) entry x e
id-for r round entry (Some c) x e = id-saved entry (snapshot r round c) x e

-- a new entry has its client's ID, which was not recorded

pub record IsNewId (book : Book) (held : Option (List ℕ)) (x : List ℕ) : Type 0 where
  pub held_is : held ≡ Some x
  pub unrecorded : is_recorded x book ≡ false

new-at : (b : Bool) (book : Book) (id : List ℕ) (table : List Property) (x : List ℕ) → is_recorded id book ≡ b → entry_id (cond b None (recorded id table)) ≡ Some x → IsNewId book (Some id) x
new-at true book id table x n e = absurd (grind arith)
new-at false book id table x n e =
    let s : x ≡ id = id-recorded (is_eligible table) id table x e in
    record { held_is = ap (λ (t : List ℕ). Some t) (sym s); unrecorded = ap (λ (t : List ℕ). is_recorded t book) s ∙ n }

new-id : (book : Book) (held : Option (List ℕ)) (saved : Option (List Property)) (x : List ℕ) → entry_id (new_saved book held saved) ≡ Some x → IsNewId book held x
new-id book None saved x e = absurd (grind arith)
new-id book (Some id) None x e = absurd (grind arith)
new-id book (Some id) (Some table) x e = new-at (is_recorded id book) book id table x refl e

-- An ID that isn't recorded is none of the entries'

find-none : (b : Bool) (entry : Entry) (o : Option Entry) → is_some (cond b (Some entry) o) ≡ false → (b ≡ false) × (is_some o ≡ false)
find-none true entry o e = absurd (grind arith)
find-none false entry o e = (refl, e)

pub apart-unrecorded : (y : List ℕ) (entries : List Entry) → is_some (find (is_of y) entries) ≡ false → AllByRecursion (λ x. bytes_eq x y ≡ false) (ids_of entries)
apart-unrecorded y [] e = tt
apart-unrecorded y (entry ∷ entries) e =
    let p : (is_of y entry ≡ false) × (is_some (find (is_of y) entries) ≡ false) = find-none (is_of y entry) entry (find (is_of y) entries) e in
    (differs y entry.id p.0, apart-unrecorded y entries p.1)

-- all pairs, the other way round
swap-none : (xs : List (List ℕ)) → AllByRecursion (λ x. AllByRecursion (λ y. bytes_eq x y ≡ false) []) xs
swap-none [] = tt
swap-none (x ∷ xs) = (tt, swap-none xs)

swap-cons : (y : List ℕ) (ys xs : List (List ℕ)) → AllByRecursion (λ x. bytes_eq x y ≡ false) xs → AllByRecursion (λ x. AllByRecursion (λ z. bytes_eq x z ≡ false) ys) xs → AllByRecursion (λ x. AllByRecursion (λ z. bytes_eq x z ≡ false) (y ∷ ys)) xs
swap-cons y ys [] p q = tt
swap-cons y ys (x ∷ xs) p q = ((p.0, q.0), swap-cons y ys xs p.1 q.1)

pub swap-all : (xs ys : List (List ℕ)) → AllByRecursion (λ y. AllByRecursion (λ x. bytes_eq x y ≡ false) xs) ys → AllByRecursion (λ x. AllByRecursion (λ y. bytes_eq x y ≡ false) ys) xs
swap-all xs [] a = swap-none xs
swap-all xs (y ∷ ys) a = swap-cons y ys xs a.0 (swap-all xs ys a.1)

cons-all : (P : List ℕ → Type 0) (o : Option (List ℕ)) (ys : List (List ℕ)) → ((id : List ℕ) → o ≡ Some id → P id) → AllByRecursion P ys → AllByRecursion P (cons_option o ys)
cons-all P None ys f a = a
cons-all P (Some id) ys f a = (f id refl, a)

all-made : {A : Type 0} (P : List ℕ → Type 0) (f : A → Option (List ℕ)) (xs : List A) → ((x : A) (id : List ℕ) → f x ≡ Some id → P id) → AllByRecursion P (filter_map f xs)
all-made P f [] k = tt
all-made P f (x ∷ xs) k = cons-all P (f x) (filter_map f xs) (k x) (all-made P f xs k)

made-all : (P Q : List ℕ → Type 0) (o : Option (List ℕ)) (ys : List (List ℕ)) → AllByRecursion P (cons_option o ys) → (id : List ℕ) → o ≡ Some id → P id
made-all P Q None ys a id e = absurd (grind arith)
made-all P Q (Some x) ys a id e = subst P (let s : x ≡ id = cc in s) a.0

-- The entries of the next book

ids-append : (xs ys : List Entry) → ids_of (xs ++ ys) ≡ ids_of xs ++ ids_of ys
ids-append [] ys = refl
ids-append (x ∷ xs) ys = ap (λ (zs : List (List ℕ)). x.id ∷ zs) (ids-append xs ys)

abbrev pub old_ids : History → Agreement → List (List ℕ)
old_ids h round = filter_map (λ (entry : Entry). entry_id (next_entry (reading h) round entry)) (of.book h).entries

abbrev pub new_ids : History → Agreement → List (List ℕ)
new_ids h round = filter_map (λ c. entry_id (new_entry (reading h) c)) (conns_of round.members)

pub next-ids : (h : History) (round : Agreement) → ids_of (next_entries (reading h) round) ≡ old_ids h round ++ new_ids h round
next-ids h round =
    ids-append (filter_map (next_entry (reading h) round) (of.book h).entries) (filter_map (new_entry (reading h)) (conns_of round.members))
    ∙ ap (λ (xs : List (List ℕ)). xs ++ ids_of (filter_map (new_entry (reading h)) (conns_of round.members))) (ids-map (next_entry (reading h) round) (of.book h).entries)
    ∙ ap (λ (xs : List (List ℕ)). old_ids h round ++ xs) (ids-map (new_entry (reading h)) (conns_of round.members))

pub old-id : (h : History) (round : Agreement) (entry : Entry) (x : List ℕ) → entry_id (next_entry (reading h) round entry) ≡ Some x → x ≡ entry.id
old-id h round entry x e = id-for (reading h) round entry (client_of entry.id (reading h).clients) x e

pub new-is : (h : History) (c : ℕ) (x : List ℕ) → entry_id (new_entry (reading h) c) ≡ Some x → IsNewId (of.book h) (of.id_of c h) x
new-is h c x e = new-id (of.book h) (of.id_of c h) (of.saved_of c h) x e

-- the old ones are of the entries, so none is a new one
apart-old : (h : History) (round : Agreement) (y : List ℕ) (entries : List Entry) → AllByRecursion (λ x. bytes_eq x y ≡ false) (ids_of entries) → AllByRecursion (λ x. bytes_eq x y ≡ false) (filter_map (λ (entry : Entry). entry_id (next_entry (reading h) round entry)) entries)
apart-old h round y [] a = tt
apart-old h round y (entry ∷ entries) a =
    cons-all (λ x. bytes_eq x y ≡ false) (entry_id (next_entry (reading h) round entry)) (filter_map (λ (e : Entry). entry_id (next_entry (reading h) round e)) entries)
    (λ x e. ap (λ (t : List ℕ). bytes_eq t y) (old-id h round entry x e) ∙ a.0) (apart-old h round y entries a.1)

pub next-distinct : (h : History) (round : Agreement) → AreOwn h → Once (conns_of round.members) → IsDistinct bytes_eq (ids_of (of.book h).entries) → IsDistinct bytes_eq (ids_of (next_entries (reading h) round))
next-distinct h round o n d =
    subst (λ (xs : List (List ℕ)). IsDistinct bytes_eq xs) (sym (next-ids h round))
    (distinct-append (old_ids h round) (new_ids h round)
    (distinct-entries (λ (entry : Entry). entry_id (next_entry (reading h) round entry)) (of.book h).entries (old-id h round) d)
    (distinct-conns h (λ c. entry_id (new_entry (reading h) c)) (conns_of round.members) (λ c x e. (new-is h c x e).held_is) o n)
    (swap-all (old_ids h round) (new_ids h round)
    (all-made (λ y. AllByRecursion (λ x. bytes_eq x y ≡ false) (old_ids h round)) (λ c. entry_id (new_entry (reading h) c)) (conns_of round.members)
    (λ c y e. apart-old h round y (of.book h).entries (apart-unrecorded y (of.book h).entries (new-is h c y e).unrecorded)))))
