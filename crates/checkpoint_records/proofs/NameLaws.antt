-- The order of names, and sessions in it.
use Rattle.std.proofs.Common.{◌≡◌, ℕ, ◌≤◌, Bool, true, false, cond, ◌&&◌, List, [], ◌∷◌, ◌++◌, length, refl, sym, ap, ap₂, ◌∙◌, subst, arith}
use Rattle.std.specs.Prelude.{codes}
use Rattle.std.specs.List.{AllByRecursion, list_all, list_any}
use Rattle.std.specs.Str.{bytes_eq}
use Rattle.std.specs.Ordering.{is_lt, is_eq, nat_cmp, ordering_reverse}
use Rattle.std.specs.declared.cmp.Ordering.{Ordering}
use Rattle.std.specs.declared.cmp.Ordering.TheVariants.{Less, Equal, Greater}
use Rattle.std.specs.Cmp.Lexicographic.{slice_cmp, nat_list_cmp_total, texts_ties}
use lib.Pointwise.{bytes_decides}
use Rattle.owned_lists.specs.declared.commands.Command.{Command}
use Rattle.checkpoint_records.specs.Books.{default_name, chosen_from, choose, entries_of, is_before, names_of, others_than, sessions, stored, with_session}
use Rattle.checkpoint_records.specs.Rules.{AreRising, IsName, IsStored, KeepsRules}
use Rattle.checkpoint_records.specs.declared.records.Entry.{Entry}
use Rattle.checkpoint_records.specs.declared.records.Named.{Named}
use Rattle.checkpoint_records.specs.declared.records.Book.{Book}
use Rattle.checkpoint_records.proofs.DistinctLaws.{all_front, all_last, all_more, all_turned, any_false}

-- ---- names

less : (r : Ordering) → is_lt r ≡ true → r ≡ Less
less Less e = refl
less Equal e = absurd (let t : false ≡ true = e in cc)
less Greater e = absurd (let t : false ≡ true = e in cc)

abbrev compared : List ℕ → List ℕ → Ordering
compared a b = slice_cmp nat_cmp a b

pub not_before : (a b : List ℕ) → is_before a b ≡ true → is_before b a ≡ false
not_before a b e = ap is_lt (nat_list_cmp_total.antisymm b a ∙ ap ordering_reverse (less (compared a b) e))

pub not_same : (a b : List ℕ) → is_before a b ≡ true → bytes_eq a b ≡ false
not_same a b e = texts_ties a b ∙ ap is_eq (less (compared a b) e)

pub before_both : (a b c : List ℕ) → is_before a b ≡ true → is_before b c ≡ true → is_before a c ≡ true
before_both a b c e f = ap is_lt (nat_list_cmp_total.trans a b c (less (compared a b) e) (less (compared b c) f))

-- one of two different names comes first
pub other_way : (a b : List ℕ) → is_before a b ≡ false → bytes_eq a b ≡ false → is_before b a ≡ true
other_way a b e f = by (compared a b) refl
  where
    by : (r : Ordering) → compared a b ≡ r → is_before b a ≡ true
    by Less is = absurd (let t : true ≡ false = sym (ap is_lt is) ∙ e in cc)
    by Equal is = absurd (let t : true ≡ false = sym (texts_ties a b ∙ ap is_eq is) ∙ f in cc)
    by Greater is = ap is_lt (nat_list_cmp_total.antisymm b a ∙ ap ordering_reverse is)

pub turned : (a b : List ℕ) → bytes_eq a b ≡ false → bytes_eq b a ≡ false
turned a b e = by (bytes_eq b a) refl
  where
    by : (t : Bool) → bytes_eq b a ≡ t → bytes_eq b a ≡ false
    by true is = absurd (let t : true ≡ false = sym ((bytes_decides a b).1 (sym ((bytes_decides b a).0 is))) ∙ e in cc)
    by false is = is

pub itself : (a : List ℕ) → bytes_eq a a ≡ true
itself a = (bytes_decides a a).1 refl

-- what a session is called where no name is said
pub default_is : codes "default" ≡ default_name
unfolding default_name
default_is = refl

pub default_fits : IsName default_name
unfolding default_name
default_fits = record { some = omega arith; few = omega arith; visible = refl }

-- ---- rising names

pub rising_front : (xs ys : List (List ℕ)) → AreRising (xs ++ ys) → AreRising xs
rising_front [] ys r = tt
rising_front (x ∷ xs) ys r = (all_front (λ later. is_before x later ≡ true) xs ys r.0, rising_front xs ys r.1)

-- behind rising names stands one more, if the last comes before it
pub rising_more : (xs : List (List ℕ)) (x y : List ℕ) → AreRising (xs ++ x ∷ []) → is_before x y ≡ true → AreRising ((xs ++ x ∷ []) ++ y ∷ [])
rising_more [] x y r e = ((e, tt), (tt, tt))
rising_more (z ∷ xs) x y r e = (behind xs r.0, rising_more xs x y r.1 e)
  where
    behind : (ws : List (List ℕ)) → AllByRecursion (λ later. is_before z later ≡ true) (ws ++ x ∷ []) → AllByRecursion (λ later. is_before z later ≡ true) ((ws ++ x ∷ []) ++ y ∷ [])
    behind [] h = (h.0, (before_both z x y h.0 e, tt))
    behind (w ∷ ws) h = (h.0, behind ws h.1)

pub last_before : (xs : List (List ℕ)) (x y : List ℕ) → AreRising ((xs ++ x ∷ []) ++ y ∷ []) → is_before x y ≡ true
last_before [] x y r = r.0.0
last_before (z ∷ xs) x y r = last_before xs x y r.1

-- whether one more name rises above others is whether each comes before it
pub rising_decided : (all : List Named) (name : List ℕ) → AreRising (names_of all)
    → (list_all (λ (session : Named). is_before session.name name) all ≡ true → AreRising (names_of all ++ name ∷ [])) × (AreRising (names_of all ++ name ∷ []) → list_all (λ (session : Named). is_before session.name name) all ≡ true)
rising_decided [] name r = (λ e. (tt, tt), λ e. refl)
rising_decided (x ∷ all) name r =
    let rest = rising_decided all name r.1 in (
      λ e. (let both = both_true (is_before x.name name) (list_all (λ (session : Named). is_before session.name name) all) e in (all_more (λ later. is_before x.name later ≡ true) (names_of all) name r.0 both.0, rest.0 both.1)),
      λ k. rw (all_last (λ later. is_before x.name later ≡ true) (names_of all) name k.0, rest.1 k.1) refl,
    )
  where
    both_true : (a b : Bool) → (a && b) ≡ true → (a ≡ true) × (b ≡ true)
    both_true true b e = (refl, e)
    both_true false b e = absurd (let t : false ≡ true = e in cc)

-- ---- a session in its place

abbrev of_names : (List ℕ → Type 0) → List Named → Type 0
of_names P all = AllByRecursion P (names_of all)

names-with : (P : List ℕ → Type 0) (s : Named) (others : List Named) → P s.name → of_names P others → of_names P (with_session s others)
names-with P s [] p h = (p, tt)
names-with P s (o ∷ others) p h = by (is_before s.name o.name) (names-with P s others p h.1)
  where
    by : (b : Bool) → of_names P (with_session s others) → of_names P (cond b (s ∷ o ∷ others) (o ∷ with_session s others))
    by true rest = (p, h)
    by false rest = (h.0, rest)

abbrev pub LacksName : List ℕ → List Named → Type 0
LacksName name others = list_any (λ (other : Named). bytes_eq name other.name) others ≡ false

rising-with : (s : Named) (others : List Named) → AreRising (names_of others) → LacksName s.name others → AreRising (names_of (with_session s others))
rising-with s [] r lacks = (tt, tt)
rising-with s (o ∷ others) r lacks =
    let apart = any_false (bytes_eq s.name o.name) (list_any (λ (other : Named). bytes_eq s.name other.name) others) lacks in
    by (is_before s.name o.name) refl apart.0 (rising-with s others r.1 apart.1)
  where
    by : (b : Bool) → is_before s.name o.name ≡ b → bytes_eq s.name o.name ≡ false → AreRising (names_of (with_session s others)) → AreRising (names_of (cond b (s ∷ o ∷ others) (o ∷ with_session s others)))
    by true e apart rest = ((e, all_turned (λ later. is_before o.name later ≡ true) (λ later. is_before s.name later ≡ true) (names_of others) (λ later f. before_both s.name o.name later e f) r.0), r)
    by false e apart rest = (names-with (λ later. is_before o.name later ≡ true) s others (other_way s.name o.name e apart) r.0, rest)

stored-with : (s : Named) (others : List Named) → IsStored s → AllByRecursion IsStored others → AllByRecursion IsStored (with_session s others)
stored-with s [] is h = (is, tt)
stored-with s (o ∷ others) is h = by (is_before s.name o.name) (stored-with s others is h.1)
  where
    by : (b : Bool) → AllByRecursion IsStored (with_session s others) → AllByRecursion IsStored (cond b (s ∷ o ∷ others) (o ∷ with_session s others))
    by true rest = (is, h)
    by false rest = (h.0, rest)

-- sessions with one more are stored, and their names rise
pub stored_at : (name : List ℕ) (entries : List Entry) (others : List Named) → IsName name → AllByRecursion IsStored others → AllByRecursion IsStored (stored name entries others)
stored_at name [] others is h = h
stored_at name (e ∷ entries) others is h = stored-with (record { name = name; entries = e ∷ entries }) others (record { called = is; some = omega arith }) h

pub rising_at : (name : List ℕ) (entries : List Entry) (others : List Named) → AreRising (names_of others) → LacksName name others → AreRising (names_of (stored name entries others))
rising_at name [] others r lacks = r
rising_at name (e ∷ entries) others r lacks = rising-with (record { name = name; entries = e ∷ entries }) others r lacks

-- so it is with all sessions of a book
pub all_stored : (book : Book) → KeepsRules book → AllByRecursion IsStored (sessions book)
all_stored book k = stored_at book.name book.entries book.others k.called k.stored

pub all_rising : (book : Book) → KeepsRules book → AreRising (names_of (sessions book))
all_rising book k = rising_at book.name book.entries book.others k.rising k.apart

-- ---- a session that is taken out comes back into its place

first-back : (name : List ℕ) (entries : List Entry) (all : List Named) → 1 ≤ length entries → of_names (λ later. is_before name later ≡ true) all → stored name entries all ≡ record { name = name; entries = entries } ∷ all
first-back name [] all some h = absurd (omega arith)
first-back name (e ∷ entries) [] some h = refl
first-back name (e ∷ entries) (o ∷ all) some h = rw h.0 refl

-- a name of which there are entries is among the names
found-among : (P : List ℕ → Type 0) (name : List ℕ) (all : List Named) → 1 ≤ length (entries_of name all) → of_names P all → P name
found-among P name [] some h = absurd (omega (arith, some))
found-among P name (x ∷ all) some h = by (bytes_eq name x.name) refl some (λ le. found-among P name all le h.1)
  where
    by : (b : Bool) → bytes_eq name x.name ≡ b → 1 ≤ length (cond b x.entries (entries_of name all)) → (1 ≤ length (entries_of name all) → P name) → P name
    by true e some rest = subst P (sym ((bytes_decides name x.name).0 e)) h.0
    by false e some rest = rest some

pub put_back : (name : List ℕ) (all : List Named) → AllByRecursion IsStored all → AreRising (names_of all) → stored name (entries_of name all) (others_than name all) ≡ all
put_back name [] s r = refl
put_back name (x ∷ all) s r = by (bytes_eq name x.name) refl (put_back name all s.1 r.1)
  where
    behind : (entries : List Entry) → entries ≡ entries_of name all → stored name entries (others_than name all) ≡ all → stored name entries (x ∷ others_than name all) ≡ x ∷ all
    behind [] is ih = ap (λ (l : List Named). x ∷ l) ih
    behind (e ∷ entries) is ih =
        let first : is_before x.name name ≡ true = found-among (λ later. is_before x.name later ≡ true) name all (subst (λ (l : List Entry). 1 ≤ length l) is (omega arith)) r.0 in
        let later : is_before name x.name ≡ false = not_before x.name name first in
        rw later (ap (λ (l : List Named). x ∷ l) ih)

    by : (b : Bool) → bytes_eq name x.name ≡ b → stored name (entries_of name all) (others_than name all) ≡ all
        → stored name (cond b x.entries (entries_of name all)) (cond b all (x ∷ others_than name all)) ≡ x ∷ all
    by true e ih =
        let same : name ≡ x.name = (bytes_decides name x.name).0 e in
        subst (λ (n : List ℕ). stored n x.entries all ≡ x ∷ all) (sym same) (first-back x.name x.entries all s.0.some r.0)
    by false e ih = behind (entries_of name all) refl ih

-- ---- choosing the chosen session

lacking-entries : (name : List ℕ) (others : List Named) → LacksName name others → (entries_of name others ≡ []) × (others_than name others ≡ others)
lacking-entries name [] lacks = (refl, refl)
lacking-entries name (o ∷ others) lacks =
    let apart = any_false (bytes_eq name o.name) (list_any (λ (other : Named). bytes_eq name other.name) others) lacks in
    let rest = lacking-entries name others apart.1 in
    (rw apart.0 rest.0, rw apart.0 (ap (λ (l : List Named). o ∷ l) rest.1))

taken-with : (s : Named) (others : List Named) → LacksName s.name others → (entries_of s.name (with_session s others) ≡ s.entries) × (others_than s.name (with_session s others) ≡ others)
taken-with s [] lacks = (let e = itself s.name in (rw e refl, rw e refl))
taken-with s (o ∷ others) lacks =
    let apart = any_false (bytes_eq s.name o.name) (list_any (λ (other : Named). bytes_eq s.name other.name) others) lacks in
    by (is_before s.name o.name) apart.0 (taken-with s others apart.1)
  where
    by : (b : Bool) → bytes_eq s.name o.name ≡ false → (entries_of s.name (with_session s others) ≡ s.entries) × (others_than s.name (with_session s others) ≡ others)
        → (entries_of s.name (cond b (s ∷ o ∷ others) (o ∷ with_session s others)) ≡ s.entries) × (others_than s.name (cond b (s ∷ o ∷ others) (o ∷ with_session s others)) ≡ o ∷ others)
    by true apart rest = (let e = itself s.name in (rw e refl, rw e refl))
    by false apart rest = (rw apart rest.0, rw apart (ap (λ (l : List Named). o ∷ l) rest.1))

pub taken_out : (name : List ℕ) (entries : List Entry) (others : List Named) → LacksName name others → (entries_of name (stored name entries others) ≡ entries) × (others_than name (stored name entries others) ≡ others)
taken_out name [] others lacks = lacking-entries name others lacks
taken_out name (e ∷ entries) others lacks = taken-with (record { name = name; entries = e ∷ entries }) others lacks

abbrev pub made : List Command → ℕ → List ℕ → List Entry → List Named → Book
made pending epoch name entries others = record { entries = entries; pending = pending; epoch = epoch; name = name; others = others }

pub chosen_stays : (book : Book) → KeepsRules book → chosen_from book.name (sessions book) book.pending book.epoch ≡ book
chosen_stays book k =
    let t = taken_out book.name book.entries book.others k.apart in
    ap₂ (λ (entries : List Entry) (others : List Named). made book.pending book.epoch book.name entries others) t.0 t.1

pub choices_keep : (name : List ℕ) (book : Book) → KeepsRules book → sessions (choose name book) ≡ sessions book
choices_keep name book k = put_back name (sessions book) (all_stored book k) (all_rising book k)

pub choices_undone : (name : List ℕ) (book : Book) → KeepsRules book → choose book.name (choose name book) ≡ book
choices_undone name book k = ap (λ (all : List Named). chosen_from book.name all book.pending book.epoch) (choices_keep name book k) ∙ chosen_stays book k
