-- A book of which the chosen session alone changed keeps the order of the one before it.
use Rattle.std.proofs.Common.{◌≡◌, ℕ, Bool, true, false, ◌||◌, List, [], ◌∷◌, ◌++◌, refl, sym, ap, ap₂, ◌∙◌, subst}
use Rattle.std.specs.List.{AllByRecursion, IsDistinct}
use Rattle.std.specs.Str.{bytes_eq}
use lib.Pointwise.{bytes_decides}
use Rattle.checkpoint_records.specs.Books.{entries_in, entries_of, others_than, sessions}
use Rattle.checkpoint_records.specs.Rules.{KeepsRules, ids_of}
use Rattle.checkpoint_records.specs.declared.records.Book.{Book}
use Rattle.checkpoint_records.specs.declared.records.Entry.{Entry}
use Rattle.checkpoint_records.specs.declared.records.Named.{Named}
use Rattle.checkpoint_records.proofs.ChoiceLaws.{ordered}
use Rattle.checkpoint_records.proofs.DistinctLaws.{distinct_split}
use Rattle.checkpoint_records.proofs.NameLaws.{all_rising, all_stored, taken_out, turned}
use Rattle.checkpoint_changes.specs.Changes.{has_entry}
use Rattle.checkpoint_changes.specs.Plain.{KeepOrder, KeepsOrder, equal_command}
use Rattle.checkpoint_changes.proofs.MapLaws.{other_stored}
use Rattle.checkpoint_changes.proofs.SessionLaws.{AreFormed, AreIdsDistinct, at_session, ids_free}
use Rattle.checkpoint_changes.proofs.WalkLaws.{ids_more}
use Rattle.book_order.proofs.Filters.{order_same}

-- no two entries of the chosen session have the same ID
pub chosen_differ : (book : Book) → KeepsRules book → IsDistinct bytes_eq (ids_of book.entries)
chosen_differ book rules = (distinct_split bytes_eq (ids_of book.entries) (ids_of (entries_in book.others)) (subst (IsDistinct bytes_eq) (ids_more book.entries (entries_in book.others)) rules.ids_differ)).0

-- an ID that one of these has is none of those from which all of these differ
lack_all : (id : List ℕ) (own others : List Entry) → has_entry id own ≡ true → AllByRecursion (λ k. AllByRecursion (λ y. bytes_eq k y ≡ false) (ids_of others)) (ids_of own) → has_entry id others ≡ false
lack_all id [] others has apart = absurd (let t : false ≡ true = has in cc)
lack_all id (e ∷ own) others has apart = by (bytes_eq e.id id) refl has (λ further. lack_all id own others further apart.1)
  where
    none : (some : List Entry) → AllByRecursion (λ y. bytes_eq e.id y ≡ false) (ids_of some) → has_entry e.id some ≡ false
    none [] k = refl
    none (x ∷ some) k = ap₂ (λ (a b : Bool). a || b) (turned e.id x.id k.0) (none some k.1)

    by : (b : Bool) → bytes_eq e.id id ≡ b → (b || has_entry id own) ≡ true → (has_entry id own ≡ true → has_entry id others ≡ false) → has_entry id others ≡ false
    by true same there more = ap (λ (k : List ℕ). has_entry k others) (sym ((bytes_decides e.id id).0 same)) ∙ none others apart.0
    by false other there more = more there

-- an ID stands in one session
one_has : (book : Book) → KeepsRules book → (name id : List ℕ) → has_entry id (entries_of name (sessions book)) ≡ true → has_entry id (entries_in (others_than name (sessions book))) ≡ false
one_has book rules name id has =
    let all : List Named = sessions book in
    let own : List Entry = entries_of name all in
    let others : List Entry = entries_in (others_than name all) in
    let formed : AreFormed all = record { stored = all_stored book rules; rising = all_rising book rules } in
    let differ : AreIdsDistinct (own ++ others) = at_session AreIdsDistinct ids_free name all formed (ordered book rules).entries.ids_differ in
    lack_all id own others has (distinct_split bytes_eq (ids_of own) (ids_of others) (subst (IsDistinct bytes_eq) (ids_more own others) differ)).2

pub order_beside : (old new : Book) → KeepsRules old → KeepsRules new → new.name ≡ old.name → new.others ≡ old.others → KeepsOrder bytes_eq (ids_of old.entries) (ids_of new.entries) → KeepsOrder equal_command old.pending new.pending → KeepOrder old new
order_beside old new rules next name others entries pending = record {
  entries = λ n. order n (bytes_eq n old.name) refl;
  pending = pending;
  stays = λ n id has. stay n id (bytes_eq n old.name) refl has;
}
  where
    -- what the chosen name has,
    mine : (n : List ℕ) → bytes_eq n old.name ≡ true → (entries_of n (sessions old) ≡ old.entries) × (others_than n (sessions old) ≡ old.others)
    mine n same =
        let t = taken_out old.name old.entries old.others rules.apart in
        let e : n ≡ old.name = (bytes_decides n old.name).0 same in
        (ap (λ (k : List ℕ). entries_of k (sessions old)) e ∙ t.0, ap (λ (k : List ℕ). others_than k (sessions old)) e ∙ t.1)

    mine_next : (n : List ℕ) → bytes_eq n old.name ≡ true → (entries_of n (sessions new) ≡ new.entries) × (others_than n (sessions new) ≡ new.others)
    mine_next n same =
        let t = taken_out new.name new.entries new.others next.apart in
        let e : n ≡ new.name = (bytes_decides n old.name).0 same ∙ sym name in
        (ap (λ (k : List ℕ). entries_of k (sessions new)) e ∙ t.0, ap (λ (k : List ℕ). others_than k (sessions new)) e ∙ t.1)

    -- and any other
    theirs : (n : List ℕ) → bytes_eq n old.name ≡ false → entries_of n (sessions new) ≡ entries_of n (sessions old)
    theirs n other =
        other_stored n new.name new.entries new.others (ap (bytes_eq n) name ∙ other) ∙ ap (entries_of n) others ∙ sym (other_stored n old.name old.entries old.others other)

    order : (n : List ℕ) (b : Bool) → bytes_eq n old.name ≡ b → KeepsOrder bytes_eq (ids_of (entries_of n (sessions old))) (ids_of (entries_of n (sessions new)))
    order n true e =
        subst (λ (es : List Entry). KeepsOrder bytes_eq (ids_of es) (ids_of (entries_of n (sessions new)))) (sym (mine n e).0)
        (subst (λ (es : List Entry). KeepsOrder bytes_eq (ids_of old.entries) (ids_of es)) (sym (mine_next n e).0) entries)
    order n false e =
        subst (λ (es : List Entry). KeepsOrder bytes_eq (ids_of (entries_of n (sessions old))) (ids_of es)) (sym (theirs n e)) (order_same bytes_eq bytes_decides (ids_of (entries_of n (sessions old))))

    stay : (n id : List ℕ) (b : Bool) → bytes_eq n old.name ≡ b → has_entry id (entries_of n (sessions old)) ≡ true → has_entry id (entries_in (others_than n (sessions new))) ≡ false
    stay n id true e has = ap (λ (l : List Named). has_entry id (entries_in l)) ((mine_next n e).1 ∙ others ∙ sym (mine n e).1) ∙ one_has old rules n id has
    stay n id false e has = one_has new next n id (ap (has_entry id) (theirs n e) ∙ has)
