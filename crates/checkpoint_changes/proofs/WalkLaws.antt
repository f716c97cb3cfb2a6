-- A delta makes one book of another: what goes is taken out of all sessions, and then what comes is put into them.
use Rattle.std.proofs.Common.{◌≡◌, ℕ, Bool, true, false, cond, ◌||◌, List, [], ◌∷◌, ◌++◌, map, Some, None, refl, sym, ap, ap₂, ◌∙◌, subst, append_assoc}
use Rattle.std.specs.Prelude.{option_and_then, option_map}
use Rattle.std.specs.List.{AllByRecursion, IsDistinct, list_any}
use Rattle.std.specs.Str.{bytes_eq}
use Rattle.std.proofs.lemmas.List.{append-nil, map-append}
use Rattle.std.proofs.lemmas.List.Folds.{list_any-append}
use lib.Pointwise.{bytes_decides}
use Rattle.checkpoint_records.specs.Books.{entries_in, entries_of, is_before, names_of, others_than, sessions, stored, with_session}
use Rattle.checkpoint_records.specs.Rules.{AreRising, IsName, IsStored, ids_of}
use Rattle.checkpoint_records.specs.declared.records.Book.{Book}
use Rattle.checkpoint_records.specs.declared.records.Entry.{Entry}
use Rattle.checkpoint_records.specs.declared.records.Named.{Named}
use Rattle.checkpoint_records.proofs.ChoiceLaws.{among_stored, others_apart, others_rising, others_stored}
use Rattle.checkpoint_records.proofs.DistinctLaws.{all_turned, any_false, distinct_join, distinct_split}
use Rattle.checkpoint_records.proofs.NameLaws.{LacksName, itself, not_same, put_back, rising_at, stored_at, taken_out, turned}
use Rattle.checkpoint_changes.specs.Changes.{applied, apply, has_entry, session_with, sessions_with, sessions_without, with_entries_at, with_entry, with_sessions, without}
use Rattle.checkpoint_changes.specs.Differences.{all_gone, all_placed, changed_entry, gone, placed}
use Rattle.checkpoint_changes.specs.Plain.{equal_entry}
use Rattle.checkpoint_changes.specs.declared.changes.Change.{Change}
use Rattle.checkpoint_changes.specs.declared.changes.Change.TheVariants.{Put, Remove}
use Rattle.checkpoint_changes.proofs.DeltaLaws.{Apart, Lacks, apart_more, apply_more, put_behind, put_last, without_behind}
use Rattle.checkpoint_changes.proofs.EqualLaws.{entry_decides}
use Rattle.checkpoint_changes.proofs.MapLaws.{none_of, other_than, others_lack, own_entries, same_sessions, stays_at}
use Rattle.checkpoint_changes.proofs.SessionLaws.{AreFormed, AreIdsDistinct, at_session, goes_in, ids_free}

-- ---- one session of a book, beside these others

-- sessions among which there is none of this name, which a session may have
pub record AreOthers (name : List ℕ) (others : List Named) : Type 0 where
  pub called : IsName name
  pub stored : AllByRecursion IsStored others
  pub rising : AreRising (names_of others)
  pub apart : LacksName name others

abbrev at : Book → List ℕ → List Entry → List Named → Book
at book name entries others = with_sessions book (stored name entries others)

-- no other session has this ID
abbrev OthersLack : List ℕ → List Named → Type 0
OthersLack id others = has_entry id (entries_in others) ≡ false

sessions-at : (book : Book) (name : List ℕ) (entries : List Entry) (others : List Named) → AreOthers name others → sessions (at book name entries others) ≡ stored name entries others
sessions-at book name entries others o =
    put_back book.name (stored name entries others) (stored_at name entries others o.called o.stored) (rising_at name entries others o.rising o.apart)

found-with : (id : List ℕ) (s : Named) (others : List Named) → has_entry id s.entries ≡ true → OthersLack id others → session_with id (with_session s others) ≡ Some s.name
found-with id s [] has lacks = rw has refl
found-with id s (o ∷ others) has lacks =
    let parts = any_false (has_entry id o.entries) (has_entry id (entries_in others)) (sym (list_any-append (λ (e : Entry). bytes_eq e.id id) o.entries (entries_in others)) ∙ lacks) in
    by (is_before s.name o.name) parts.0 (found-with id s others has parts.1)
  where
    by : (b : Bool) → has_entry id o.entries ≡ false → session_with id (with_session s others) ≡ Some s.name → session_with id (cond b (s ∷ o ∷ others) (o ∷ with_session s others)) ≡ Some s.name
    by true none rest = rw has refl
    by false none rest = rw none rest

found-at : (id name : List ℕ) (entries : List Entry) (others : List Named) → has_entry id entries ≡ true → OthersLack id others → session_with id (stored name entries others) ≡ Some name
found-at id name [] others has lacks = absurd (let t : false ≡ true = has in cc)
found-at id name (e ∷ entries) others has lacks = found-with id (record { name = name; entries = e ∷ entries }) others has lacks

remove-step : (book : Book) (name : List ℕ) (entries left : List Entry) (others : List Named) (id : List ℕ) → AreOthers name others → has_entry id entries ≡ true → without id entries ≡ Some left → OthersLack id others
    → applied (at book name entries others) (Remove id) ≡ Some (at book name left others)
remove-step book name entries left others id o has gone lacks =
    let t = taken_out name entries others o.apart in
    let found = found-at id name entries others has lacks in
    let put : with_entries_at name left (stored name entries others) ≡ stored name left others = ap (λ (l : List Named). stored name left l) t.1 in
    let here : without id (entries_of name (stored name entries others)) ≡ Some left = ap (without id) t.0 ∙ gone in
    let inner : sessions_without id (stored name entries others) ≡ Some (stored name left others) =
    ap (option_and_then (λ (n : List ℕ). option_map (λ (es : List Entry). with_entries_at n es (stored name entries others)) (without id (entries_of n (stored name entries others))))) found
    ∙ ap (option_map (λ (es : List Entry). with_entries_at name es (stored name entries others))) here ∙ ap (λ (l : List Named). Some l) put in
    ap (λ (l : List Named). option_map (with_sessions book) (sessions_without id l)) (sessions-at book name entries others o) ∙ ap (option_map (with_sessions book)) inner

put-step : (book : Book) (name : List ℕ) (entries : List Entry) (others : List Named) (f : Entry) → AreOthers name others → OthersLack f.id others
    → applied (at book name entries others) (Put name f) ≡ Some (at book name (with_entry f entries) others)
put-step book name entries others f o lacks =
    let t = taken_out name entries others o.apart in
    let all : List Named = stored name entries others in
    let none : has_entry f.id (entries_in (others_than name all)) ≡ false = ap (λ (l : List Named). has_entry f.id (entries_in l)) t.1 ∙ lacks in
    let put : with_entries_at name (with_entry f (entries_of name all)) all ≡ stored name (with_entry f entries) others = ap₂ (λ (es : List Entry) (l : List Named). stored name (with_entry f es) l) t.0 t.1 in
    let inner : sessions_with name f all ≡ Some (stored name (with_entry f entries) others) =
    ap (λ (b : Bool). cond b None (Some (with_entries_at name (with_entry f (entries_of name all)) all))) none ∙ ap (λ (l : List Named). Some l) put in
    ap (λ (l : List Named). option_map (with_sessions book) (sessions_with name f l)) (sessions-at book name entries others o) ∙ ap (option_map (with_sessions book)) inner

first-applied : (book next : Book) (change : Change) (delta : List Change) → applied book change ≡ Some next → apply book (change ∷ delta) ≡ apply next delta
first-applied book next change delta is = ap (option_and_then (λ (b : Book). apply b delta)) is

-- ---- what goes of one session

-- the entries that stay
abbrev pub stay : List Entry → List Entry → List Entry
stay [] new = []
stay (e ∷ old) [] = stay old []
stay (e ∷ old) (f ∷ new) = cond (bytes_eq e.id f.id) (e ∷ stay old new) (stay old (f ∷ new))

pub none_stay : (old : List Entry) → stay old [] ≡ []
none_stay [] = refl
none_stay (e ∷ old) = none_stay old

pub stay_all : (P : Entry → Type 0) (old new : List Entry) → AllByRecursion P old → AllByRecursion P (stay old new)
stay_all P [] new h = tt
stay_all P (e ∷ old) [] h = stay_all P old [] h.1
stay_all P (e ∷ old) (f ∷ new) h = by (bytes_eq e.id f.id) (stay_all P old new h.1) (stay_all P old (f ∷ new) h.1)
  where
    by : (b : Bool) → AllByRecursion P (stay old new) → AllByRecursion P (stay old (f ∷ new)) → AllByRecursion P (cond b (e ∷ stay old new) (stay old (f ∷ new)))
    by true one two = (h.0, one)
    by false one two = two

has-behind : (kept : List Entry) (e : Entry) (old : List Entry) → has_entry e.id (kept ++ e ∷ old) ≡ true
has-behind kept e old = list_any-append (λ (x : Entry). bytes_eq x.id e.id) kept (e ∷ old) ∙ by (has_entry e.id kept) (bytes_eq e.id e.id) (itself e.id)
  where
    by : (a b : Bool) → b ≡ true → (a || (b || has_entry e.id old)) ≡ true
    by true b s = refl
    by false true s = refl
    by false false s = absurd (let t : false ≡ true = s in cc)

abbrev AllLack : List Named → List Entry → Type 0
AllLack others entries = AllByRecursion (λ (e : Entry). OthersLack e.id others) entries

gone-lead : (old new kept : List Entry) (book : Book) (name : List ℕ) (others : List Named) → AreOthers name others → IsDistinct bytes_eq (ids_of old) → Apart kept old → AllLack others old
    → apply (at book name (kept ++ old) others) (gone old new) ≡ Some (at book name (kept ++ stay old new) others)
unfolding IsDistinct
gone-lead [] new kept book name others o d a lacks = refl
gone-lead (e ∷ old) [] kept book name others o d a lacks =
    let out : without e.id (kept ++ e ∷ old) ≡ Some (kept ++ old) = without_behind e.id kept e old a.0 (itself e.id) in
    first-applied (at book name (kept ++ e ∷ old) others) (at book name (kept ++ old) others) (Remove e.id) (gone old []) (remove-step book name (kept ++ e ∷ old) (kept ++ old) others e.id o (has-behind kept e old) out lacks.0)
    ∙ gone-lead old [] kept book name others o d.1 a.1 lacks.1
gone-lead (e ∷ old) (f ∷ new) kept book name others o d a lacks =
    by (bytes_eq e.id f.id) (gone-lead old new (kept ++ e ∷ []) book name others o d.1 (apart_more kept e old a.1 d.0) lacks.1) (gone-lead old (f ∷ new) kept book name others o d.1 a.1 lacks.1)
  where
    by : (b : Bool) → apply (at book name ((kept ++ e ∷ []) ++ old) others) (gone old new) ≡ Some (at book name ((kept ++ e ∷ []) ++ stay old new) others)
        → apply (at book name (kept ++ old) others) (gone old (f ∷ new)) ≡ Some (at book name (kept ++ stay old (f ∷ new)) others)
        → apply (at book name (kept ++ e ∷ old) others) (cond b (gone old new) (Remove e.id ∷ gone old (f ∷ new))) ≡ Some (at book name (kept ++ cond b (e ∷ stay old new) (stay old (f ∷ new))) others)
    by true one two =
        ap (λ (l : List Entry). apply (at book name l others) (gone old new)) (sym (append_assoc kept (e ∷ []) old)) ∙ one ∙ ap (λ (l : List Entry). Some (at book name l others)) (append_assoc kept (e ∷ []) (stay old new))
    by false one two =
        let out : without e.id (kept ++ e ∷ old) ≡ Some (kept ++ old) = without_behind e.id kept e old a.0 (itself e.id) in
        first-applied (at book name (kept ++ e ∷ old) others) (at book name (kept ++ old) others) (Remove e.id) (gone old (f ∷ new)) (remove-step book name (kept ++ e ∷ old) (kept ++ old) others e.id o (has-behind kept e old) out lacks.0) ∙ two

-- ---- what comes into one session

puts-lead : (new kept : List Entry) (book : Book) (name : List ℕ) (others : List Named) → AreOthers name others → Apart kept new → IsDistinct bytes_eq (ids_of new) → AllLack others new
    → apply (at book name kept others) (map (λ entry. Put name entry) new) ≡ Some (at book name (kept ++ new) others)
unfolding IsDistinct
puts-lead [] kept book name others o a d lacks = ap (λ (l : List Entry). Some (at book name l others)) (sym (append-nil kept))
puts-lead (f ∷ new) kept book name others o a d lacks =
    let grown : with_entry f kept ≡ kept ++ f ∷ [] = put_last f kept a.0 in
    first-applied (at book name kept others) (at book name (kept ++ f ∷ []) others) (Put name f) (map (λ entry. Put name entry) new) (put-step book name kept others f o lacks.0 ∙ ap (λ (l : List Entry). Some (at book name l others)) grown)
    ∙ puts-lead new (kept ++ f ∷ []) book name others o (apart_more kept f new a.1 d.0) d.1 lacks.1 ∙ ap (λ (l : List Entry). Some (at book name l others)) (append_assoc kept (f ∷ []) new)

changed-step : (e f : Entry) (kept rest : List Entry) (book : Book) (name : List ℕ) (others : List Named) → AreOthers name others → bytes_eq e.id f.id ≡ true → Lacks f.id kept → OthersLack f.id others
    → apply (at book name (kept ++ e ∷ rest) others) (changed_entry name e f) ≡ Some (at book name (kept ++ f ∷ rest) others)
changed-step e f kept rest book name others o same lacks none = by (equal_entry e f) refl
  where
    by : (b : Bool) → equal_entry e f ≡ b → apply (at book name (kept ++ e ∷ rest) others) (cond b [] (Put name f ∷ [])) ≡ Some (at book name (kept ++ f ∷ rest) others)
    by true equal = ap (λ (x : Entry). Some (at book name (kept ++ x ∷ rest) others)) ((entry_decides e f).0 equal)
    by false other =
        first-applied (at book name (kept ++ e ∷ rest) others) (at book name (kept ++ f ∷ rest) others) (Put name f) []
        (put-step book name (kept ++ e ∷ rest) others f o none ∙ ap (λ (l : List Entry). Some (at book name l others)) (put_behind f kept e rest lacks same))

placed-lead : (old new kept : List Entry) (book : Book) (name : List ℕ) (others : List Named) → AreOthers name others → Apart kept new → IsDistinct bytes_eq (ids_of new) → AllLack others new
    → apply (at book name (kept ++ stay old new) others) (placed name old new) ≡ Some (at book name (kept ++ new) others)
unfolding IsDistinct
placed-lead [] new kept book name others o a d lacks =
    ap (λ (l : List Entry). apply (at book name l others) (map (λ entry. Put name entry) new)) (append-nil kept) ∙ puts-lead new kept book name others o a d lacks
placed-lead (e ∷ old) [] kept book name others o a d lacks = ap (λ (l : List Entry). Some (at book name (kept ++ l) others)) (none_stay old)
placed-lead (e ∷ old) (f ∷ new) kept book name others o a d lacks =
    by (bytes_eq e.id f.id) refl (placed-lead old new (kept ++ f ∷ []) book name others o (apart_more kept f new a.1 d.0) d.1 lacks.1) (placed-lead old (f ∷ new) kept book name others o a d lacks)
  where
    by : (b : Bool) → bytes_eq e.id f.id ≡ b
        → apply (at book name ((kept ++ f ∷ []) ++ stay old new) others) (placed name old new) ≡ Some (at book name ((kept ++ f ∷ []) ++ new) others)
        → apply (at book name (kept ++ stay old (f ∷ new)) others) (placed name old (f ∷ new)) ≡ Some (at book name (kept ++ f ∷ new) others)
        → apply (at book name (kept ++ cond b (e ∷ stay old new) (stay old (f ∷ new))) others) (cond b (changed_entry name e f ++ placed name old new) (placed name old (f ∷ new))) ≡ Some (at book name (kept ++ f ∷ new) others)
    by true same one two =
        apply_more (changed_entry name e f) (placed name old new) (at book name (kept ++ e ∷ stay old new) others) (at book name (kept ++ f ∷ stay old new) others) (changed-step e f kept (stay old new) book name others o same a.0 lacks.0)
        ∙ ap (λ (l : List Entry). apply (at book name l others) (placed name old new)) (sym (append_assoc kept (f ∷ []) (stay old new))) ∙ one ∙ ap (λ (l : List Entry). Some (at book name l others)) (append_assoc kept (f ∷ []) new)
    by false other one two = two

-- ---- all sessions

others-of : (name : List ℕ) (all : List Named) → IsName name → AreFormed all → AreOthers name (others_than name all)
others-of name all is f = record { called = is; stored = others_stored name all f.stored; rising = others_rising name all f.rising; apart = others_apart name all f.rising }

formed-with : (name : List ℕ) (entries : List Entry) (others : List Named) → AreOthers name others → AreFormed (stored name entries others)
formed-with name entries others o = record { stored = stored_at name entries others o.called o.stored; rising = rising_at name entries others o.rising o.apart }

apart-none : (xs : List Entry) → Apart [] xs
apart-none [] = tt
apart-none (x ∷ xs) = (tt, apart-none xs)

-- none of two lists has an ID of the other
lack-each : (xs ys : List Entry) → AllByRecursion (λ id. AllByRecursion (λ y. bytes_eq id y ≡ false) (ids_of ys)) (ids_of xs) → AllByRecursion (λ (e : Entry). has_entry e.id ys ≡ false) xs
lack-each [] ys h = tt
lack-each (x ∷ xs) ys h = (one ys h.0, lack-each xs ys h.1)
  where
    one : (zs : List Entry) → AllByRecursion (λ y. bytes_eq x.id y ≡ false) (ids_of zs) → has_entry x.id zs ≡ false
    one [] k = refl
    one (z ∷ zs) k = ap₂ (λ (a b : Bool). a || b) (turned x.id z.id k.0) (one zs k.1)

pub ids_more : (xs ys : List Entry) → ids_of (xs ++ ys) ≡ ids_of xs ++ ids_of ys
ids_more xs ys = map-append (λ (e : Entry). e.id) xs ys

stay-ids : (Q : List ℕ → Type 0) (old new : List Entry) → AllByRecursion Q (ids_of old) → AllByRecursion Q (ids_of (stay old new))
stay-ids Q old new h = back (stay old new) (stay_all (λ (e : Entry). Q e.id) old new (there old h))
  where
    there : (xs : List Entry) → AllByRecursion Q (ids_of xs) → AllByRecursion (λ (e : Entry). Q e.id) xs
    there [] k = tt
    there (x ∷ xs) k = (k.0, there xs k.1)

    back : (xs : List Entry) → AllByRecursion (λ (e : Entry). Q e.id) xs → AllByRecursion Q (ids_of xs)
    back [] k = tt
    back (x ∷ xs) k = (k.0, back xs k.1)

stay-distinct : (old new : List Entry) → IsDistinct bytes_eq (ids_of old) → IsDistinct bytes_eq (ids_of (stay old new))
unfolding IsDistinct
stay-distinct [] new d = tt
stay-distinct (e ∷ old) [] d = stay-distinct old [] d.1
stay-distinct (e ∷ old) (f ∷ new) d = by (bytes_eq e.id f.id) (stay-distinct old new d.1) (stay-distinct old (f ∷ new) d.1)
  where
    by : (b : Bool) → IsDistinct bytes_eq (ids_of (stay old new)) → IsDistinct bytes_eq (ids_of (stay old (f ∷ new))) → IsDistinct bytes_eq (ids_of (cond b (e ∷ stay old new) (stay old (f ∷ new))))
    by true one two = (stay-ids (λ y. bytes_eq e.id y ≡ false) old new d.0, one)
    by false one two = two

-- what a walk over some sessions leaves
pub record Walked (book : Book) (now : List Named) (delta : List Change) (some : List Named) (made : Named → List Entry) : Type 0 where
  pub after : List Named
  pub formed : AreFormed after
  pub leads : apply (with_sessions book now) delta ≡ Some (with_sessions book after)
  pub touched : AllByRecursion (λ (s : Named). entries_of s.name after ≡ made s) some
  pub untouched : (m : List ℕ) → LacksName m some → entries_of m after ≡ entries_of m now

-- the sessions that are yet to be walked over are as they were
other-names : (s : Named) (rest now after : List Named) (was : Named → List Entry) → AllByRecursion (λ later. is_before s.name later ≡ true) (names_of rest)
    → ((m : List ℕ) → bytes_eq m s.name ≡ false → entries_of m after ≡ entries_of m now) → AllByRecursion (λ (t : Named). entries_of t.name now ≡ was t) rest → AllByRecursion (λ (t : Named). entries_of t.name after ≡ was t) rest
other-names s [] now after was h same own = tt
other-names s (t ∷ rest) now after was h same own = (same t.name (turned s.name t.name (not_same s.name t.name h.0)) ∙ own.0, other-names s rest now after was h.1 same own.1)

lacks-behind : (name : List ℕ) (rest : List Named) → AllByRecursion (λ later. is_before name later ≡ true) (names_of rest) → LacksName name rest
lacks-behind name [] h = refl
lacks-behind name (t ∷ rest) h = rw (not_same name t.name h.0) (lacks-behind name rest h.1)

next-walked : (book : Book) (now mid : List Named) (first more : List Change) (s : Named) (rest : List Named) (made : Named → List Entry) → AllByRecursion (λ later. is_before s.name later ≡ true) (names_of rest)
    → apply (with_sessions book now) first ≡ Some (with_sessions book mid) → entries_of s.name mid ≡ made s → ((m : List ℕ) → bytes_eq m s.name ≡ false → entries_of m mid ≡ entries_of m now)
    → Walked book mid more rest made → Walked book now (first ++ more) (s ∷ rest) made
next-walked book now mid first more s rest made h leads own same w = record {
  after = w.after;
  formed = w.formed;
  leads = apply_more first more (with_sessions book now) (with_sessions book mid) leads ∙ w.leads;
  touched = (w.untouched s.name (lacks-behind s.name rest h) ∙ own, w.touched);
  untouched = λ m lacks.
      let parts = any_false (bytes_eq m s.name) (list_any (λ (other : Named). bytes_eq m other.name) rest) lacks in
      w.untouched m parts.1 ∙ same m parts.0;
}

none-walked : (book : Book) (now : List Named) (made : Named → List Entry) → AreFormed now → Walked book now [] [] made
none-walked book now made f = record { after = now; formed = f; leads = refl; touched = tt; untouched = λ m lacks. refl }

-- a session that is one of these, beside the others
as-one : (now : List Named) (name : List ℕ) (entries : List Entry) → AreFormed now → entries_of name now ≡ entries → now ≡ stored name entries (others_than name now)
as-one now name entries f own = sym (put_back name now f.stored f.rising) ∙ ap (λ (es : List Entry). stored name es (others_than name now)) own

abbrev stays-of : List Named → Named → List Entry
stays-of new s = stay s.entries (entries_of s.name new)

all_gone-walked : (some new now : List Named) (book : Book) → AreFormed now → AreIdsDistinct (entries_in now) → AllByRecursion IsStored some → AreRising (names_of some) → AllByRecursion (λ (s : Named). entries_of s.name now ≡ s.entries) some
    → Walked book now (all_gone some new) some (stays-of new)
all_gone-walked [] new now book f d is r own = none-walked book now (stays-of new) f
all_gone-walked (s ∷ some) new now book f d is r own =
    let others = others_than s.name now in
    let o = others-of s.name now is.0.called f in
    let left = stays-of new s in
    let mid : List Named = stored s.name left others in
    let parts = distinct_split bytes_eq (ids_of s.entries) (ids_of (entries_in others)) (subst (IsDistinct bytes_eq) (ids_more s.entries (entries_in others))
    (subst (λ (es : List Entry). AreIdsDistinct (es ++ entries_in others)) own.0 (at_session AreIdsDistinct ids_free s.name now f d))) in
    let leads : apply (with_sessions book now) (gone s.entries (entries_of s.name new)) ≡ Some (with_sessions book mid) =
    ap (λ (l : List Named). apply (with_sessions book l) (gone s.entries (entries_of s.name new))) (as-one now s.name s.entries f own.0)
    ∙ gone-lead s.entries (entries_of s.name new) [] book s.name others o parts.0 (apart-none s.entries) (lack-each s.entries (entries_in others) parts.2) in
    let formed = formed-with s.name left others o in
    let distinct : AreIdsDistinct (left ++ entries_in others) = subst (IsDistinct bytes_eq) (sym (ids_more left (entries_in others)))
    (distinct_join bytes_eq (ids_of left) (ids_of (entries_in others)) (stay-distinct s.entries (entries_of s.name new) parts.0) parts.1 (stay-ids (λ id. AllByRecursion (λ y. bytes_eq id y ≡ false) (ids_of (entries_in others))) s.entries (entries_of s.name new) parts.2)) in
    let same : (m : List ℕ) → bytes_eq m s.name ≡ false → entries_of m mid ≡ entries_of m now = λ m other. stays_at m s.name left now other in
    let rest = all_gone-walked some new mid book formed (goes_in AreIdsDistinct ids_free left (entries_in mid) (entries_in others) (among_stored s.name left others) distinct) is.1 r.1
    (other-names s some now mid (λ t. t.entries) r.0 same own.1) in
    next-walked book now mid (gone s.entries (entries_of s.name new)) (all_gone some new) s some (stays-of new) r.0 leads (taken_out s.name left others o.apart).0 same rest

-- under each name stand entries whose IDs the new sessions have under it
abbrev AreWithin : List Named → List Named → Type 0
AreWithin now new = (m : List ℕ) → AllByRecursion (λ (e : Entry). has_entry e.id (entries_of m new) ≡ true) (entries_of m now)

abbrev AreMet : List Named → Type 0
AreMet new = (m n : List ℕ) → bytes_eq m n ≡ false → AllByRecursion (λ (f : Entry). has_entry f.id (entries_of m new) ≡ false) (entries_of n new)

pub has_own : (entries all : List Entry) → AllByRecursion (λ (e : Entry). has_entry e.id (all ++ entries) ≡ true) entries
has_own [] all = tt
has_own (e ∷ entries) all = (has-behind all e entries, subst (λ (l : List Entry). AllByRecursion (λ (x : Entry). has_entry x.id l ≡ true) entries) (append_assoc all (e ∷ []) entries) (has_own entries (all ++ e ∷ [])))

-- an ID that none of these has is none of theirs
lacks-id : (id : List ℕ) (entries all : List Entry) → has_entry id all ≡ false → AllByRecursion (λ (e : Entry). has_entry e.id all ≡ true) entries → has_entry id entries ≡ false
lacks-id id [] all none h = refl
lacks-id id (e ∷ entries) all none h = by (bytes_eq e.id id) refl (lacks-id id entries all none h.1)
  where
    by : (b : Bool) → bytes_eq e.id id ≡ b → has_entry id entries ≡ false → has_entry id (e ∷ entries) ≡ false
    by true same rest = absurd (let t : true ≡ false = sym h.0 ∙ ap (λ (k : List ℕ). has_entry k all) ((bytes_decides e.id id).0 same) ∙ none in cc)
    by false other rest = ap₂ (λ (a b : Bool). a || b) other rest

all-lack : (name : List ℕ) (now new : List Named) (fs : List Entry) → AreRising (names_of now) → AreWithin now new → ((m : List ℕ) → bytes_eq m name ≡ false → AllByRecursion (λ (f : Entry). has_entry f.id (entries_of m new) ≡ false) fs)
    → AllLack (others_than name now) fs
all-lack name now new [] r within met = tt
all-lack name now new (f ∷ fs) r within met = (
  others_lack f.id name now r (λ m other. lacks-id f.id (entries_of m now) (entries_of m new) (met m other).0 (within m)),
  all-lack name now new fs r within (λ m other. (met m other).1),
)

-- so it is once a session has its new entries
still_within : (s : Named) (new now mid : List Named) → entries_of s.name new ≡ s.entries → entries_of s.name mid ≡ s.entries → ((m : List ℕ) → bytes_eq m s.name ≡ false → entries_of m mid ≡ entries_of m now) → AreWithin now new → AreWithin mid new
still_within s new now mid mine own same within m = by (bytes_eq m s.name) refl
  where
    by : (b : Bool) → bytes_eq m s.name ≡ b → AllByRecursion (λ (e : Entry). has_entry e.id (entries_of m new) ≡ true) (entries_of m mid)
    by true e =
        let name : s.name ≡ m = sym ((bytes_decides m s.name).0 e) in
        subst (λ (k : List ℕ). AllByRecursion (λ (x : Entry). has_entry x.id (entries_of k new) ≡ true) (entries_of k mid)) name
        (subst (λ (es : List Entry). AllByRecursion (λ (x : Entry). has_entry x.id es ≡ true) (entries_of s.name mid)) (sym mine) (subst (λ (es : List Entry). AllByRecursion (λ (x : Entry). has_entry x.id s.entries ≡ true) es) (sym own) (has_own s.entries [])))
    by false e = subst (λ (es : List Entry). AllByRecursion (λ (x : Entry). has_entry x.id (entries_of m new) ≡ true) es) (sym (same m e)) (within m)

abbrev own-of : Named → List Entry
own-of s = s.entries

all_placed-walked : (some old new now : List Named) (book : Book) → AreFormed now → AreWithin now new → AreMet new → AllByRecursion IsStored some → AreRising (names_of some) → AllByRecursion (λ (s : Named). AreIdsDistinct s.entries) some
    → AllByRecursion (λ (s : Named). entries_of s.name new ≡ s.entries) some → AllByRecursion (λ (s : Named). entries_of s.name now ≡ stay (entries_of s.name old) s.entries) some
    → Walked book now (all_placed old some) some own-of
all_placed-walked [] old new now book f within met is r d mine own = none-walked book now own-of f
all_placed-walked (s ∷ some) old new now book f within met is r d mine own =
    let others = others_than s.name now in
    let o = others-of s.name now is.0.called f in
    let was = stay (entries_of s.name old) s.entries in
    let mid : List Named = stored s.name s.entries others in
    let lacks = all-lack s.name now new s.entries f.rising within (λ m other. subst (λ (es : List Entry). AllByRecursion (λ (x : Entry). has_entry x.id (entries_of m new) ≡ false) es) mine.0 (met m s.name other)) in
    let leads : apply (with_sessions book now) (placed s.name (entries_of s.name old) s.entries) ≡ Some (with_sessions book mid) =
    ap (λ (l : List Named). apply (with_sessions book l) (placed s.name (entries_of s.name old) s.entries)) (as-one now s.name was f own.0)
    ∙ placed-lead (entries_of s.name old) s.entries [] book s.name others o (apart-none s.entries) d.0 lacks in
    let formed = formed-with s.name s.entries others o in
    let own_mid : entries_of s.name mid ≡ s.entries = (taken_out s.name s.entries others o.apart).0 in
    let same : (m : List ℕ) → bytes_eq m s.name ≡ false → entries_of m mid ≡ entries_of m now = λ m other. stays_at m s.name s.entries now other in
    let rest = all_placed-walked some old new mid book formed (still_within s new now mid mine.0 own_mid same within) met is.1 r.1 d.1 mine.1 (other-names s some now mid (λ t. stay (entries_of t.name old) t.entries) r.0 same own.1) in
    next-walked book now mid (placed s.name (entries_of s.name old) s.entries) (all_placed old some) s some own-of r.0 leads own_mid same rest

-- ---- two books

-- what holds of a session's name and of each name that no other has
one-name : (Q : List ℕ → Type 0) (s : Named) (some : List Named) → Q s.name → ((m : List ℕ) → LacksName m (s ∷ some) → Q m) → (m : List ℕ) → LacksName m some → Q m
one-name Q s some here none m lacks = pick (bytes_eq m s.name) refl
  where
    pick : (b : Bool) → bytes_eq m s.name ≡ b → Q m
    pick true e = subst Q (sym ((bytes_decides m s.name).0 e)) here
    pick false e = none m (ap₂ (λ (a b : Bool). a || b) e lacks)

-- what holds of the names of some sessions, and of a name that none of them has, holds of each name
every-name : (Q : List ℕ → Type 0) (some : List Named) → AllByRecursion (λ (s : Named). Q s.name) some → ((m : List ℕ) → LacksName m some → Q m) → (m : List ℕ) → Q m
every-name Q [] h none m = none m refl
every-name Q (s ∷ some) h none m = every-name Q some h.1 (one-name Q s some h.0 none) m

pub both_hold : {A : Type 0} (P Q R : A → Type 0) (xs : List A) → ((x : A) → P x → Q x → R x) → AllByRecursion P xs → AllByRecursion Q xs → AllByRecursion R xs
both_hold P Q R [] on h k = tt
both_hold P Q R (x ∷ xs) on h k = (on x h.0 k.0, both_hold P Q R xs on h.1 k.1)

each-holds : {A : Type 0} (P Q : A → Type 0) (xs : List A) → ((x : A) → P x → Q x) → AllByRecursion P xs → AllByRecursion Q xs
each-holds P Q xs on h = all_turned P Q xs on h

-- what stays has the ID of one that is new
stay_within : (old new : List Entry) → AllByRecursion (λ (e : Entry). has_entry e.id new ≡ true) (stay old new)
stay_within [] new = tt
stay_within (e ∷ old) [] = subst (AllByRecursion (λ (x : Entry). has_entry x.id [] ≡ true)) (sym (none_stay old)) tt
stay_within (e ∷ old) (f ∷ new) = by (bytes_eq e.id f.id) refl (stay_within old new) (stay_within old (f ∷ new))
  where
    either : (b c : Bool) → c ≡ true → (b || c) ≡ true
    either true c k = refl
    either false c k = k

    more : (x : Entry) → has_entry x.id new ≡ true → has_entry x.id (f ∷ new) ≡ true
    more x h = either (bytes_eq f.id x.id) (has_entry x.id new) h

    by : (b : Bool) → bytes_eq e.id f.id ≡ b → AllByRecursion (λ (x : Entry). has_entry x.id new ≡ true) (stay old new) → AllByRecursion (λ (x : Entry). has_entry x.id (f ∷ new) ≡ true) (stay old (f ∷ new))
        → AllByRecursion (λ (x : Entry). has_entry x.id (f ∷ new) ≡ true) (cond b (e ∷ stay old new) (stay old (f ∷ new)))
    by true same one two =
        let back : bytes_eq f.id e.id ≡ true = (bytes_decides f.id e.id).1 (sym ((bytes_decides e.id f.id).0 same)) in
        (ap (λ (b : Bool). b || has_entry e.id new) back, all_turned (λ (x : Entry). has_entry x.id new ≡ true) (λ (x : Entry). has_entry x.id (f ∷ new) ≡ true) (stay old new) more one)
    by false other one two = two

-- an ID that no session has is none of one session
part-lacks : (id m : List ℕ) (all : List Named) → has_entry id (entries_in all) ≡ false → has_entry id (entries_of m all) ≡ false
part-lacks id m [] lacks = refl
part-lacks id m (s ∷ all) lacks =
    let parts = any_false (has_entry id s.entries) (has_entry id (entries_in all)) (sym (list_any-append (λ (e : Entry). bytes_eq e.id id) s.entries (entries_in all)) ∙ lacks) in
    by (bytes_eq m s.name) parts.0 (part-lacks id m all parts.1)
  where
    by : (b : Bool) → has_entry id s.entries ≡ false → has_entry id (entries_of m all) ≡ false → has_entry id (cond b s.entries (entries_of m all)) ≡ false
    by true one two = one
    by false one two = two

met : (new : List Named) → AreFormed new → AreIdsDistinct (entries_in new) → AreMet new
met new f d m n other =
    let parts = distinct_split bytes_eq (ids_of (entries_of n new)) (ids_of (entries_in (others_than n new)))
    (subst (IsDistinct bytes_eq) (ids_more (entries_of n new) (entries_in (others_than n new))) (at_session AreIdsDistinct ids_free n new f d)) in
    let same : entries_of m (others_than n new) ≡ entries_of m new = other_than m n new other in
    all_turned (λ (x : Entry). has_entry x.id (entries_in (others_than n new)) ≡ false) (λ (x : Entry). has_entry x.id (entries_of m new) ≡ false) (entries_of n new)
    (λ x lacks. ap (has_entry x.id) (sym same) ∙ part-lacks x.id m (others_than n new) lacks) (lack-each (entries_of n new) (entries_in (others_than n new)) parts.2)

pub session_distinct : (some : List Named) → AreIdsDistinct (entries_in some) → AllByRecursion (λ (s : Named). AreIdsDistinct s.entries) some
session_distinct [] d = tt
session_distinct (s ∷ some) d =
    let parts = distinct_split bytes_eq (ids_of s.entries) (ids_of (entries_in some)) (subst (IsDistinct bytes_eq) (ids_more s.entries (entries_in some)) d) in
    (parts.0, session_distinct some parts.1)

pub sessions_lead : (book : Book) (old new : List Named) → AreFormed old → AreFormed new → AreIdsDistinct (entries_in old) → AreIdsDistinct (entries_in new)
    → apply (with_sessions book old) (all_gone old new ++ all_placed old new) ≡ Some (with_sessions book new)
sessions_lead book old new f g d e =
    let own_old = own_entries old f.rising in
    let own_new = own_entries new g.rising in
    let one = all_gone-walked old new old book f d f.stored f.rising own_old in
    let first : (m : List ℕ) → entries_of m one.after ≡ stay (entries_of m old) (entries_of m new) =
    every-name (λ m. entries_of m one.after ≡ stay (entries_of m old) (entries_of m new)) old
    (both_hold (λ (s : Named). entries_of s.name one.after ≡ stays-of new s) (λ (s : Named). entries_of s.name old ≡ s.entries) (λ (s : Named). entries_of s.name one.after ≡ stay (entries_of s.name old) (entries_of s.name new)) old
    (λ s made own. made ∙ ap (λ (es : List Entry). stay es (entries_of s.name new)) (sym own)) one.touched own_old)
    (λ m lacks. let none = none_of m old lacks in one.untouched m lacks ∙ none ∙ ap (λ (es : List Entry). stay es (entries_of m new)) (sym none)) in
    let within : AreWithin one.after new = λ m. subst (AllByRecursion (λ (x : Entry). has_entry x.id (entries_of m new) ≡ true)) (sym (first m)) (stay_within (entries_of m old) (entries_of m new)) in
    let own = all_turned (λ (s : Named). entries_of s.name new ≡ s.entries) (λ (s : Named). entries_of s.name one.after ≡ stay (entries_of s.name old) s.entries) new (λ s mine. first s.name ∙ ap (stay (entries_of s.name old)) mine) own_new in
    let two = all_placed-walked new old new one.after book one.formed within (met new g e) g.stored g.rising (session_distinct new e) own_new own in
    let last : (m : List ℕ) → entries_of m two.after ≡ entries_of m new =
    every-name (λ m. entries_of m two.after ≡ entries_of m new) new
    (both_hold (λ (s : Named). entries_of s.name two.after ≡ own-of s) (λ (s : Named). entries_of s.name new ≡ s.entries) (λ (s : Named). entries_of s.name two.after ≡ entries_of s.name new) new (λ s made mine. made ∙ sym mine) two.touched own_new)
    (λ m lacks. let none = none_of m new lacks in two.untouched m lacks ∙ first m ∙ ap (stay (entries_of m old)) none ∙ none_stay (entries_of m old) ∙ sym none) in
    let same : two.after ≡ new = same_sessions two.after new two.formed g last in
    apply_more (all_gone old new) (all_placed old new) (with_sessions book old) (with_sessions book one.after) one.leads ∙ two.leads ∙ ap (λ (l : List Named). Some (with_sessions book l)) same
