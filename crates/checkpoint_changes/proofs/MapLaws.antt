-- Sessions are what each name has of entries.
use Rattle.std.proofs.Common.{◌≡◌, ℕ, Bool, true, false, cond, ◌||◌, List, [], ◌∷◌, length, refl, sym, ap, ap₂, ◌∙◌, subst, arith}
use Rattle.std.specs.List.{AllByRecursion, list_any}
use Rattle.std.specs.Str.{bytes_eq}
use Rattle.std.proofs.lemmas.List.Folds.{list_any-append}
use lib.Pointwise.{bytes_decides}
use Rattle.checkpoint_records.specs.Books.{entries_in, entries_of, is_before, names_of, others_than, stored, with_session}
use Rattle.checkpoint_records.specs.Rules.{AreRising, IsStored}
use Rattle.checkpoint_records.specs.declared.records.Entry.{Entry}
use Rattle.checkpoint_records.specs.declared.records.Named.{Named}
use Rattle.checkpoint_records.proofs.DistinctLaws.{all_turned, any_false}
use Rattle.checkpoint_records.proofs.NameLaws.{LacksName, before_both, itself, not_same, other_way, turned}
use Rattle.checkpoint_changes.specs.Changes.{has_entry}
use Rattle.checkpoint_changes.proofs.SessionLaws.{AreFormed}

-- a session comes behind a name
abbrev AreBehind : List ℕ → List Named → Type 0
AreBehind name all = AllByRecursion (λ later. is_before name later ≡ true) (names_of all)

lacks_later : (name : List ℕ) (all : List Named) → AreBehind name all → LacksName name all
lacks_later name [] h = refl
lacks_later name (x ∷ all) h = rw (not_same name x.name h.0) (lacks_later name all h.1)

-- a name that none has has no entries
pub none_of : (name : List ℕ) (all : List Named) → LacksName name all → entries_of name all ≡ []
none_of name [] lacks = refl
none_of name (x ∷ all) lacks =
    let apart = any_false (bytes_eq name x.name) (list_any (λ (other : Named). bytes_eq name other.name) all) lacks in
    rw apart.0 (none_of name all apart.1)

-- ---- another name

other_with : (m : List ℕ) (s : Named) (others : List Named) → bytes_eq m s.name ≡ false → entries_of m (with_session s others) ≡ entries_of m others
other_with m s [] e = rw e refl
other_with m s (o ∷ others) e = by (is_before s.name o.name) (other_with m s others e)
  where
    by : (b : Bool) → entries_of m (with_session s others) ≡ entries_of m others → entries_of m (cond b (s ∷ o ∷ others) (o ∷ with_session s others)) ≡ entries_of m (o ∷ others)
    by true rest = rw e refl
    by false rest = ap (λ (l : List Entry). cond (bytes_eq m o.name) o.entries l) rest

pub other_stored : (m name : List ℕ) (entries : List Entry) (others : List Named) → bytes_eq m name ≡ false → entries_of m (stored name entries others) ≡ entries_of m others
other_stored m name [] others e = refl
other_stored m name (x ∷ entries) others e = other_with m (record { name = name; entries = x ∷ entries }) others e

pub other_than : (m name : List ℕ) (all : List Named) → bytes_eq m name ≡ false → entries_of m (others_than name all) ≡ entries_of m all
other_than m name [] e = refl
other_than m name (x ∷ all) e = by (bytes_eq name x.name) refl (other_than m name all e)
  where
    by : (b : Bool) → bytes_eq name x.name ≡ b → entries_of m (others_than name all) ≡ entries_of m all → entries_of m (cond b all (x ∷ others_than name all)) ≡ cond (bytes_eq m x.name) x.entries (entries_of m all)
    by true same rest =
        let other : bytes_eq m x.name ≡ false = ap (bytes_eq m) (sym ((bytes_decides name x.name).0 same)) ∙ e in
        rw other refl
    by false apart rest = ap (λ (l : List Entry). cond (bytes_eq m x.name) x.entries l) rest

-- what another name has stays
pub stays_at : (m name : List ℕ) (entries : List Entry) (all : List Named) → bytes_eq m name ≡ false → entries_of m (stored name entries (others_than name all)) ≡ entries_of m all
stays_at m name entries all e = other_stored m name entries (others_than name all) e ∙ other_than m name all e

-- ---- each session's own

own_more : (m : List ℕ) (x : Named) (all : List Named) → is_before x.name m ≡ true → entries_of m (x ∷ all) ≡ entries_of m all
own_more m x all first = (let other : bytes_eq m x.name ≡ false = turned x.name m (not_same x.name m first) in rw other refl)

own_behind : (x : Named) (all some : List Named) → AreBehind x.name some → AllByRecursion (λ (s : Named). entries_of s.name all ≡ s.entries) some → AllByRecursion (λ (s : Named). entries_of s.name (x ∷ all) ≡ s.entries) some
own_behind x all [] h own = tt
own_behind x all (s ∷ some) h own = (own_more s.name x all h.0 ∙ own.0, own_behind x all some h.1 own.1)

pub own_entries : (all : List Named) → AreRising (names_of all) → AllByRecursion (λ (s : Named). entries_of s.name all ≡ s.entries) all
own_entries [] r = tt
own_entries (x ∷ all) r = (let e = itself x.name in (rw e refl, own_behind x all all r.0 (own_entries all r.1)))

-- ---- two lists of sessions with the same entries under each name

abbrev session : List ℕ → List Entry → Named
session name entries = record { name = name; entries = entries }

first_only : (x : Named) (xs : List Named) (n : List ℕ) → AreBehind x.name xs → bytes_eq n x.name ≡ true → entries_of n xs ≡ []
first_only x xs n h same = none_of n xs (subst (λ (k : List ℕ). LacksName k xs) (sym ((bytes_decides n x.name).0 same)) (lacks_later x.name xs h))

earlier_none : (name : List ℕ) (y : Named) (ys : List Named) → is_before name y.name ≡ true → AreBehind y.name ys → entries_of name (y ∷ ys) ≡ []
earlier_none name y ys first h =
    none_of name (y ∷ ys) (lacks_later name (y ∷ ys) (first, all_turned (λ later. is_before y.name later ≡ true) (λ later. is_before name later ≡ true) (names_of ys) (λ later e. before_both name y.name later first e) h))

no_less : (x : Named) (entries : List Entry) → IsStored x → x.entries ≡ entries → entries ≡ [] → ⊥
no_less x entries is e f = omega (arith, is.some, ap length (e ∙ f))

same_tail : (x y : Named) (xs ys : List Named) (n : List ℕ) → AreBehind x.name xs → AreBehind y.name ys → x.name ≡ y.name → entries_of n (x ∷ xs) ≡ entries_of n (y ∷ ys) → entries_of n xs ≡ entries_of n ys
same_tail x y xs ys n h k name same = pick (bytes_eq n x.name) refl
  where
    pick : (b : Bool) → bytes_eq n x.name ≡ b → entries_of n xs ≡ entries_of n ys
    pick true e = first_only x xs n h e ∙ sym (first_only y ys n k (ap (bytes_eq n) (sym name) ∙ e))
    pick false e =
        let mine : entries_of n (x ∷ xs) ≡ entries_of n xs = rw e refl in
        let e_y : bytes_eq n y.name ≡ false = ap (bytes_eq n) (sym name) ∙ e in
        let yours : entries_of n (y ∷ ys) ≡ entries_of n ys = rw e_y refl in
        sym mine ∙ same ∙ yours

pub same_sessions : (xs ys : List Named) → AreFormed xs → AreFormed ys → ((n : List ℕ) → entries_of n xs ≡ entries_of n ys) → xs ≡ ys
same_sessions [] [] f g same = refl
same_sessions [] (y ∷ ys) f g same =
    let e = itself y.name in
    let own : entries_of y.name (y ∷ ys) ≡ y.entries = rw e refl in
    absurd (no_less y [] g.stored.0 (sym own ∙ sym (same y.name)) refl)
same_sessions (x ∷ xs) [] f g same =
    let e = itself x.name in
    let own : entries_of x.name (x ∷ xs) ≡ x.entries = rw e refl in
    absurd (no_less x [] f.stored.0 (sym own ∙ same x.name) refl)
same_sessions (x ∷ xs) (y ∷ ys) f g same = by (is_before x.name y.name) (bytes_eq x.name y.name) refl refl (λ tails. same_sessions xs ys (record { stored = f.stored.1; rising = f.rising.1 }) (record { stored = g.stored.1; rising = g.rising.1 }) tails)
  where
    own_x : entries_of x.name (x ∷ xs) ≡ x.entries
    own_x = (let e = itself x.name in rw e refl)

    own_y : entries_of y.name (y ∷ ys) ≡ y.entries
    own_y = (let e = itself y.name in rw e refl)

    by : (b t : Bool) → is_before x.name y.name ≡ b → bytes_eq x.name y.name ≡ t → (((n : List ℕ) → entries_of n xs ≡ entries_of n ys) → xs ≡ ys) → x ∷ xs ≡ y ∷ ys
    by true t first e more = absurd (no_less x (entries_of x.name (y ∷ ys)) f.stored.0 (sym own_x ∙ same x.name) (earlier_none x.name y ys first g.rising.0))
    by false false first e more =
        absurd (no_less y (entries_of y.name (x ∷ xs)) g.stored.0 (sym own_y ∙ sym (same y.name)) (earlier_none y.name x xs (other_way x.name y.name first e) f.rising.0))
    by false true first e more =
        let name : x.name ≡ y.name = (bytes_decides x.name y.name).0 e in
        let entries : x.entries ≡ y.entries = sym own_x ∙ same x.name ∙ ap (λ (n : List ℕ). entries_of n (y ∷ ys)) name ∙ own_y in
        ap₂ (λ (s : Named) (l : List Named). s ∷ l) (ap₂ (λ (n : List ℕ) (es : List Entry). session n es) name entries) (more (λ n. same_tail x y xs ys n f.rising.0 g.rising.0 name (same n)))

-- ---- an ID that the others lack

abbrev pub LacksAt : List ℕ → List ℕ → List Named → Type 0
LacksAt id name all = (m : List ℕ) → bytes_eq m name ≡ false → has_entry id (entries_of m all) ≡ false

lacks_deeper : (id name : List ℕ) (x : Named) (all : List Named) → AreBehind x.name all → LacksAt id name (x ∷ all) → LacksAt id name all
lacks_deeper id name x all h lacks m other = pick (bytes_eq m x.name) refl
  where
    pick : (b : Bool) → bytes_eq m x.name ≡ b → has_entry id (entries_of m all) ≡ false
    pick true e = ap (has_entry id) (first_only x all m h e)
    pick false e = (let mine : entries_of m (x ∷ all) ≡ entries_of m all = rw e refl in ap (has_entry id) (sym mine) ∙ lacks m other)

each_lacks : (id name : List ℕ) (all some : List Named) → LacksAt id name all → AllByRecursion (λ (s : Named). entries_of s.name all ≡ s.entries) some → LacksName name some → has_entry id (entries_in some) ≡ false
each_lacks id name all [] lacks own apart = refl
each_lacks id name all (s ∷ some) lacks own apart =
    let parts = any_false (bytes_eq name s.name) (list_any (λ (other : Named). bytes_eq name other.name) some) apart in
    let here : has_entry id s.entries ≡ false = ap (has_entry id) (sym own.0) ∙ lacks s.name (turned name s.name parts.0) in
    list_any-append (λ (e : Entry). bytes_eq e.id id) s.entries (entries_in some) ∙ ap₂ (λ (a b : Bool). a || b) here (each_lacks id name all some lacks own.1 parts.1)

pub others_lack : (id name : List ℕ) (all : List Named) → AreRising (names_of all) → ((m : List ℕ) → bytes_eq m name ≡ false → has_entry id (entries_of m all) ≡ false) → has_entry id (entries_in (others_than name all)) ≡ false
others_lack id name [] r lacks = refl
others_lack id name (x ∷ all) r lacks = by (bytes_eq name x.name) refl (others_lack id name all r.1 (lacks_deeper id name x all r.0 lacks))
  where
    by : (b : Bool) → bytes_eq name x.name ≡ b → has_entry id (entries_in (others_than name all)) ≡ false → has_entry id (entries_in (cond b all (x ∷ others_than name all))) ≡ false
    by true e more = each_lacks id name all all (lacks_deeper id name x all r.0 lacks) (own_entries all r.1) (subst (λ (k : List ℕ). LacksName k all) (sym ((bytes_decides name x.name).0 e)) (lacks_later x.name all r.0))
    by false e more =
        let same = itself x.name in
        let own : entries_of x.name (x ∷ all) ≡ x.entries = rw same refl in
        let here : has_entry id x.entries ≡ false = ap (has_entry id) (sym own) ∙ lacks x.name (turned name x.name e) in
        list_any-append (λ (y : Entry). bytes_eq y.id id) x.entries (entries_in (others_than name all)) ∙ ap₂ (λ (a b : Bool). a || b) here more
