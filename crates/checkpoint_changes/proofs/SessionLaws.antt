-- What the entries of a book owe one another, seen from one of its sessions.
use Rattle.std.proofs.Common.{◌≡◌, ℕ, Bool, true, false, cond, List, [], ◌∷◌, ◌++◌, Option, Some, None, refl, sym, ap, ◌∙◌, subst}
use Rattle.std.specs.Prelude.{find, option_and_then, option_map}
use Rattle.std.specs.List.{AllByRecursion, IsDistinct}
use Rattle.std.specs.Str.{bytes_eq}
use Rattle.std.proofs.lemmas.List.{map-append}
use Rattle.owned_lists.specs.declared.commands.Command.{Command}
use Rattle.ice_values.proofs.OptionLaws.{none_not_some, some_is}
use Rattle.checkpoint_records.specs.Books.{all_entries, chosen_from, entries_in, entries_of, names_of, others_than, sessions, stored}
use Rattle.checkpoint_records.specs.Rules.{AreRising, IsName, IsStored, ids_of}
use Rattle.checkpoint_records.specs.declared.records.Book.{Book}
use Rattle.checkpoint_records.specs.declared.records.Entry.{Entry}
use Rattle.checkpoint_records.specs.declared.records.Named.{Named}
use Rattle.checkpoint_records.proofs.ChoiceLaws.{IsAmong, among_stored, others_apart, others_rising, others_stored}
use Rattle.checkpoint_records.proofs.DistinctLaws.{all_swapped, distinct_swapped}
use Rattle.checkpoint_records.proofs.NameLaws.{LacksName, put_back, rising_at, stored_at, turned}
use Rattle.checkpoint_changes.specs.Changes.{has_entry, session_with, sessions_with, sessions_without, with_entries_at, with_entry, with_sessions, without}

-- ---- what doesn't ask for the order of entries

abbrev pub IsFree : (List Entry → Type 0) → Type 0
IsFree Q = (xs ys zs : List Entry) → Q (xs ++ (ys ++ zs)) → Q (ys ++ (xs ++ zs))

pub all_free : (P : Entry → Type 0) → IsFree (AllByRecursion P)
all_free P xs ys zs h = all_swapped P xs ys zs h

pub ids-three : (xs ys zs : List Entry) → ids_of (xs ++ (ys ++ zs)) ≡ ids_of xs ++ (ids_of ys ++ ids_of zs)
ids-three xs ys zs = map-append (λ (e : Entry). e.id) xs (ys ++ zs) ∙ ap (λ (l : List (List ℕ)). ids_of xs ++ l) (map-append (λ (e : Entry). e.id) ys zs)

abbrev pub AreIdsDistinct : List Entry → Type 0
AreIdsDistinct entries = IsDistinct bytes_eq (ids_of entries)

pub ids_free : IsFree AreIdsDistinct
ids_free xs ys zs d = subst (IsDistinct bytes_eq) (sym (ids-three ys xs zs)) (distinct_swapped bytes_eq turned (ids_of xs) (ids_of ys) (ids_of zs) (subst (IsDistinct bytes_eq) (ids-three xs ys zs) d))

module _ (Q : List Entry → Type 0) (free : IsFree Q) where
  pub goes_in : (some all others : List Entry) → IsAmong some all others → Q (some ++ others) → Q all
  goes_in some all others a q = subst Q (sym a.is) (free some a.front a.behind (subst (λ (l : List Entry). Q (some ++ l)) a.left q))

  pub comes_out : (some all others : List Entry) → IsAmong some all others → Q all → Q (some ++ others)
  comes_out some all others a q = subst (λ (l : List Entry). Q (some ++ l)) (sym a.left) (free a.front some a.behind (subst Q a.is q))

-- ---- a book and one of its sessions

-- the sessions stand in the order of their names
pub record AreFormed (all : List Named) : Type 0 where
  pub stored : AllByRecursion IsStored all
  pub rising : AreRising (names_of all)

-- so do those of a book
pub record IsFormed (book : Book) : Type 0 where
  pub called : IsName book.name
  pub stored : AllByRecursion IsStored book.others
  pub rising : AreRising (names_of book.others)
  pub apart : LacksName book.name book.others

pub all_formed : (book : Book) → IsFormed book → AreFormed (sessions book)
all_formed book f = record { stored = stored_at book.name book.entries book.others f.called f.stored; rising = rising_at book.name book.entries book.others f.rising f.apart }

pub formed_at : (name : List ℕ) (entries : List Entry) (all : List Named) → IsName name → AreFormed all → AreFormed (with_entries_at name entries all)
formed_at name entries all is f = record {
  stored = stored_at name entries (others_than name all) is (others_stored name all f.stored);
  rising = rising_at name entries (others_than name all) (others_rising name all f.rising) (others_apart name all f.rising);
}

pub chosen_formed : (name : List ℕ) (all : List Named) (pending : List Command) (epoch : ℕ) → IsName name → AreFormed all → IsFormed (chosen_from name all pending epoch)
chosen_formed name all pending epoch is f = record { called = is; stored = others_stored name all f.stored; rising = others_rising name all f.rising; apart = others_apart name all f.rising }

module _ (Q : List Entry → Type 0) (free : IsFree Q) where
  -- of all entries of sessions, and of one's and the others'
  pub at_session : (name : List ℕ) (all : List Named) → AreFormed all → Q (entries_in all) → Q (entries_of name all ++ entries_in (others_than name all))
  at_session name all f q =
      let back = put_back name all f.stored f.rising in
      comes_out Q free (entries_of name all) (entries_in (stored name (entries_of name all) (others_than name all))) (entries_in (others_than name all)) (among_stored name (entries_of name all) (others_than name all))
      (subst (λ (l : List Named). Q (entries_in l)) (sym back) q)

  pub in_session : (book : Book) (name : List ℕ) → IsFormed book → Q (all_entries book) → Q (entries_of name (sessions book) ++ entries_in (others_than name (sessions book)))
  in_session book name f q =
      at_session name (sessions book) (all_formed book f) (goes_in Q free book.entries (entries_in (sessions book)) (entries_in book.others) (among_stored book.name book.entries book.others) q)

  pub in_book : (book : Book) (name : List ℕ) (entries : List Entry) (all : List Named) → IsName name → AreFormed all → Q (entries ++ entries_in (others_than name all)) → Q (all_entries (with_sessions book (with_entries_at name entries all)))
  in_book book name entries all is f q =
      at_session book.name (with_entries_at name entries all) (formed_at name entries all is f)
      (goes_in Q free entries (entries_in (with_entries_at name entries all)) (entries_in (others_than name all)) (among_stored name entries (others_than name all)) q)

-- the session that has an ID has a name
pub found_name : (id name : List ℕ) (all : List Named) → session_with id all ≡ Some name → AllByRecursion IsStored all → IsName name
found_name id name [] is s = absurd (none_not_some name is)
found_name id name (x ∷ all) is s = by (has_entry id x.entries) is (λ e. found_name id name all e s.1)
  where
    by : (b : Bool) → option_map (λ (session : Named). session.name) (cond b (Some x) (find (λ (session : Named). has_entry id session.entries) all)) ≡ Some name → (session_with id all ≡ Some name → IsName name) → IsName name
    by true e rest = subst IsName (some_is x.name name e) s.0.called
    by false e rest = rest e

-- ---- a change of one session

-- what a removal does
pub record Removes (id : List ℕ) (all after : List Named) : Type 0 where
  pub name : List ℕ
  pub left : List Entry
  pub called : session_with id all ≡ Some name
  pub gone : without id (entries_of name all) ≡ Some left
  pub is : after ≡ with_entries_at name left all

pub removes : (id : List ℕ) (all after : List Named) → sessions_without id all ≡ Some after → Removes id all after
removes id all after is = by (session_with id all) refl is
  where
    inner : (name : List ℕ) → session_with id all ≡ Some name → (o : Option (List Entry)) → without id (entries_of name all) ≡ o → option_map (λ (entries : List Entry). with_entries_at name entries all) o ≡ Some after → Removes id all after
    inner name called None gone e = absurd (none_not_some after e)
    inner name called (Some left) gone e = record { name = name; left = left; called = called; gone = gone; is = sym (some_is (with_entries_at name left all) after e) }

    by : (o : Option (List ℕ)) → session_with id all ≡ o → option_and_then (λ (name : List ℕ). option_map (λ (entries : List Entry). with_entries_at name entries all) (without id (entries_of name all))) o ≡ Some after → Removes id all after
    by None called e = absurd (none_not_some after e)
    by (Some name) called e = inner name called (without id (entries_of name all)) refl e

-- what it is to put an entry
pub record Puts (name : List ℕ) (entry : Entry) (all after : List Named) : Type 0 where
  pub nowhere : has_entry entry.id (entries_in (others_than name all)) ≡ false
  pub is : after ≡ with_entries_at name (with_entry entry (entries_of name all)) all

pub puts : (name : List ℕ) (entry : Entry) (all after : List Named) → sessions_with name entry all ≡ Some after → Puts name entry all after
puts name entry all after is = by (has_entry entry.id (entries_in (others_than name all))) refl is
  where
    by : (b : Bool) → has_entry entry.id (entries_in (others_than name all)) ≡ b → cond b None (Some (with_entries_at name (with_entry entry (entries_of name all)) all)) ≡ Some after → Puts name entry all after
    by true nowhere e = absurd (none_not_some after e)
    by false nowhere e = record { nowhere = nowhere; is = sym (some_is (with_entries_at name (with_entry entry (entries_of name all)) all) after e) }

-- in front of other entries
pub without_front : (id : List ℕ) (entries left others : List Entry) → without id entries ≡ Some left → without id (entries ++ others) ≡ Some (left ++ others)
without_front id [] left others is = absurd (none_not_some left is)
without_front id (first ∷ entries) left others is = by (bytes_eq first.id id) (without id entries) refl is (λ rest r. without_front id entries rest others r)
  where
    by : (b : Bool) (o : Option (List Entry)) → without id entries ≡ o → cond b (Some entries) (option_map (λ rest. first ∷ rest) o) ≡ Some left → ((rest : List Entry) → o ≡ Some rest → without id (entries ++ others) ≡ Some (rest ++ others))
        → cond b (Some (entries ++ others)) (option_map (λ rest. first ∷ rest) (without id (entries ++ others))) ≡ Some (left ++ others)
    by true o same e more = ap (λ (l : List Entry). Some (l ++ others)) (some_is entries left e)
    by false None same e more = absurd (none_not_some left e)
    by false (Some rest) same e more = ap (option_map (λ (l : List Entry). first ∷ l)) (more rest refl) ∙ ap (λ (l : List Entry). Some (l ++ others)) (some_is (first ∷ rest) left e)
