-- Where what stays keeps its order in each session, and no entry changes its session, the changes of two books are those that are missing.
use Rattle.std.proofs.Common.{◌≡◌, ℕ, Bool, true, false, cond, not, ◌||◌, List, [], ◌∷◌, ◌++◌, refl, sym, ap, ap₂, ◌∙◌, subst}
use Rattle.std.specs.Prelude.{flat_map}
use Rattle.std.specs.List.{AllByRecursion, IsDistinct, list_any}
use Rattle.std.specs.Str.{bytes_eq}
use Rattle.std.proofs.lemmas.Grind.{flat_map-append}
use Rattle.std.proofs.lemmas.List.{map-append}
use Rattle.std.proofs.lemmas.List.Folds.{list_any-append}
use Rattle.std.proofs.lemmas.List.Elements.{filter-append}
use lib.Pointwise.{bytes_decides}
use Rattle.checkpoint_records.specs.Books.{entries_in, entries_of, is_before, names_of, others_than}
use Rattle.checkpoint_records.specs.Rules.{AreRising, ids_of}
use Rattle.checkpoint_records.specs.declared.records.Entry.{Entry}
use Rattle.checkpoint_records.specs.declared.records.Named.{Named}
use Rattle.checkpoint_records.proofs.DistinctLaws.{any_false, any_swapped}
use Rattle.checkpoint_records.proofs.NameLaws.{not_same, turned}
use Rattle.checkpoint_changes.specs.Changes.{has_entry}
use Rattle.checkpoint_changes.specs.Differences.{all_gone, all_placed, gone, placed}
use Rattle.checkpoint_changes.specs.Plain.{KeepsOrder, equal_entry, equal_named, missing_from, put_in, removed_in}
use Rattle.checkpoint_changes.proofs.PlainLaws.{entries_stay, filter_same, gone_plain, named_all, placed_plain}
use Rattle.checkpoint_changes.proofs.SessionLaws.{AreFormed, IsFree, at_session, ids-three}

-- ---- what goes

-- an entry of this ID is among all sessions where it is in this one, if no other has it
AnyIs : List ℕ → Bool → List Entry → Type 0
AnyIs id b entries = list_any (bytes_eq id) (ids_of entries) ≡ b

any-free : (id : List ℕ) (b : Bool) → IsFree (AnyIs id b)
unfolding AnyIs
any-free id b xs ys zs h =
    ap (list_any (bytes_eq id)) (ids-three ys xs zs) ∙ any_swapped (bytes_eq id) (ids_of ys) (ids_of xs) (ids_of zs) ∙ sym (ap (list_any (bytes_eq id)) (ids-three xs ys zs)) ∙ h

none-turned : (id : List ℕ) (xs : List Entry) → has_entry id xs ≡ false → list_any (bytes_eq id) (ids_of xs) ≡ false
none-turned id [] e = refl
none-turned id (x ∷ xs) e = (let h = any_false (bytes_eq x.id id) (has_entry id xs) e in ap₂ (λ (a b : Bool). a || b) (turned x.id id h.0) (none-turned id xs h.1))

or-none : (b : Bool) → (b || false) ≡ b
or-none true = refl
or-none false = refl

any-own : (id name : List ℕ) (new : List Named) → AreFormed new → has_entry id (entries_in (others_than name new)) ≡ false
    → list_any (bytes_eq id) (ids_of (entries_of name new)) ≡ list_any (bytes_eq id) (ids_of (entries_in new))
unfolding AnyIs
any-own id name new f none =
    let own : List Entry = entries_of name new in
    let others : List Entry = entries_in (others_than name new) in
    let all = at_session (AnyIs id (list_any (bytes_eq id) (ids_of (entries_in new)))) (any-free id (list_any (bytes_eq id) (ids_of (entries_in new)))) name new f refl in
    let split : list_any (bytes_eq id) (ids_of (own ++ others)) ≡ (list_any (bytes_eq id) (ids_of own) || false) =
    ap (list_any (bytes_eq id)) (map-append (λ (e : Entry). e.id) own others) ∙ list_any-append (bytes_eq id) (ids_of own) (ids_of others) ∙ ap (λ (b : Bool). list_any (bytes_eq id) (ids_of own) || b) (none-turned id others none) in
    sym (or-none (list_any (bytes_eq id) (ids_of own))) ∙ sym split ∙ all

each-own : (name : List ℕ) (new : List Named) (entries : List Entry) → AreFormed new → AllByRecursion (λ (e : Entry). has_entry e.id (entries_in (others_than name new)) ≡ false) entries
    → AllByRecursion (λ id. not (list_any (bytes_eq id) (ids_of (entries_of name new))) ≡ not (list_any (bytes_eq id) (ids_of (entries_in new)))) (ids_of entries)
each-own name new [] f h = tt
each-own name new (e ∷ entries) f h = (ap not (any-own e.id name new f h.0), each-own name new entries f h.1)

-- What a session owes the new sessions: what stays keeps its order, and nothing goes into another.
pub record Orders (new : List Named) (s : Named) : Type 0 where
  pub distinct : IsDistinct bytes_eq (ids_of s.entries)
  pub order : KeepsOrder bytes_eq (ids_of s.entries) (ids_of (entries_of s.name new))
  pub stays : AllByRecursion (λ (e : Entry). has_entry e.id (entries_in (others_than s.name new)) ≡ false) s.entries

pub all_gone_plain : (some new : List Named) → AreFormed new → AllByRecursion (Orders new) some → flat_map removed_in (all_gone some new) ≡ missing_from bytes_eq (ids_of (entries_in new)) (ids_of (entries_in some))
all_gone_plain [] new f h = refl
all_gone_plain (s ∷ some) new f h =
    let first : flat_map removed_in (gone s.entries (entries_of s.name new)) ≡ missing_from bytes_eq (ids_of (entries_in new)) (ids_of s.entries) =
    gone_plain s.entries (entries_of s.name new) h.0.distinct (entries_stay s.entries (entries_of s.name new) h.0.distinct h.0.order)
    ∙ filter_same (λ id. not (list_any (bytes_eq id) (ids_of (entries_of s.name new)))) (λ id. not (list_any (bytes_eq id) (ids_of (entries_in new)))) (ids_of s.entries) (each-own s.name new s.entries f h.0.stays) in
    flat_map-append removed_in (gone s.entries (entries_of s.name new)) (all_gone some new) ∙ ap₂ (λ (a b : List (List ℕ)). a ++ b) first (all_gone_plain some new f h.1)
    ∙ sym (ap (missing_from bytes_eq (ids_of (entries_in new))) (map-append (λ (e : Entry). e.id) s.entries (entries_in some)) ∙ filter-append (λ id. not (list_any (bytes_eq id) (ids_of (entries_in new)))) (ids_of s.entries) (ids_of (entries_in some)))

-- ---- what comes

abbrev named_in : List Named → List (List ℕ × Entry)
named_in all = flat_map (λ (session : Named). named_all session.name session.entries) all

any-other : (name other : List ℕ) (f : Entry) (entries : List Entry) → bytes_eq name other ≡ false → list_any (equal_named (name, f)) (named_all other entries) ≡ false
any-other name other f [] e = refl
any-other name other f (x ∷ entries) e = (let rest = any-other name other f entries e in rw (e, rest) refl)

any-same : (name other : List ℕ) (f : Entry) (entries : List Entry) → bytes_eq name other ≡ true → list_any (equal_named (name, f)) (named_all other entries) ≡ list_any (equal_entry f) entries
any-same name other f [] e = refl
any-same name other f (x ∷ entries) e = (let rest = any-same name other f entries e in rw (e, rest) refl)

none-behind : (name : List ℕ) (f : Entry) (all : List Named) → AllByRecursion (λ later. is_before name later ≡ true) (names_of all) → list_any (equal_named (name, f)) (named_in all) ≡ false
none-behind name f [] h = refl
none-behind name f (s ∷ all) h =
    list_any-append (equal_named (name, f)) (named_all s.name s.entries) (named_in all) ∙ ap₂ (λ (a b : Bool). a || b) (any-other name s.name f s.entries (not_same name s.name h.0)) (none-behind name f all h.1)

any-named : (name : List ℕ) (f : Entry) (all : List Named) → AreRising (names_of all) → list_any (equal_named (name, f)) (named_in all) ≡ list_any (equal_entry f) (entries_of name all)
any-named name f [] r = refl
any-named name f (s ∷ all) r = list_any-append (equal_named (name, f)) (named_all s.name s.entries) (named_in all) ∙ by (bytes_eq name s.name) refl (any-named name f all r.1)
  where
    by : (b : Bool) → bytes_eq name s.name ≡ b → list_any (equal_named (name, f)) (named_in all) ≡ list_any (equal_entry f) (entries_of name all)
        → (list_any (equal_named (name, f)) (named_all s.name s.entries) || list_any (equal_named (name, f)) (named_in all)) ≡ list_any (equal_entry f) (cond b s.entries (entries_of name all))
    by true e rest =
        let none : list_any (equal_named (name, f)) (named_in all) ≡ false = none-behind name f all (subst (λ (k : List ℕ). AllByRecursion (λ later. is_before k later ≡ true) (names_of all)) (sym ((bytes_decides name s.name).0 e)) r.0) in
        ap₂ (λ (a b : Bool). a || b) (any-same name s.name f s.entries e) none ∙ or-none (list_any (equal_entry f) s.entries)
    by false e rest = ap₂ (λ (a b : Bool). a || b) (any-other name s.name f s.entries e) rest

missing-named : (name : List ℕ) (old : List Named) (entries : List Entry) → AreRising (names_of old) → named_all name (missing_from equal_entry (entries_of name old) entries) ≡ missing_from equal_named (named_in old) (named_all name entries)
missing-named name old [] r = refl
missing-named name old (f ∷ entries) r = by (list_any (equal_entry f) (entries_of name old)) (any-named name f old r) (missing-named name old entries r)
  where
    by : (b : Bool) → list_any (equal_named (name, f)) (named_in old) ≡ b → named_all name (missing_from equal_entry (entries_of name old) entries) ≡ missing_from equal_named (named_in old) (named_all name entries)
        → named_all name (cond (not b) (f ∷ missing_from equal_entry (entries_of name old) entries) (missing_from equal_entry (entries_of name old) entries)) ≡ missing_from equal_named (named_in old) (named_all name (f ∷ entries))
    by true e rest = rw e rest
    by false e rest = rw e (ap (λ (l : List (List ℕ × Entry)). (name, f) ∷ l) rest)

-- What a new session owes the old ones.
pub record Keeps (old : List Named) (s : Named) : Type 0 where
  pub old_distinct : IsDistinct bytes_eq (ids_of (entries_of s.name old))
  pub distinct : IsDistinct bytes_eq (ids_of s.entries)
  pub order : KeepsOrder bytes_eq (ids_of (entries_of s.name old)) (ids_of s.entries)

pub all_placed_plain : (old some : List Named) → AreRising (names_of old) → AllByRecursion (Keeps old) some → flat_map put_in (all_placed old some) ≡ missing_from equal_named (named_in old) (named_in some)
all_placed_plain old [] r h = refl
all_placed_plain old (s ∷ some) r h =
    let first : flat_map put_in (placed s.name (entries_of s.name old) s.entries) ≡ missing_from equal_named (named_in old) (named_all s.name s.entries) =
    placed_plain s.name (entries_of s.name old) s.entries h.0.old_distinct h.0.distinct (entries_stay (entries_of s.name old) s.entries h.0.old_distinct h.0.order) ∙ missing-named s.name old s.entries r in
    flat_map-append put_in (placed s.name (entries_of s.name old) s.entries) (all_placed old some) ∙ ap₂ (λ (a b : List (List ℕ × Entry)). a ++ b) first (all_placed_plain old some r h.1)
    ∙ sym (filter-append (λ x. not (list_any (equal_named x) (named_in old))) (named_all s.name s.entries) (named_in some))
