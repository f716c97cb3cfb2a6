-- A session's book, and how it stands in the store.
use Rattle.std.proofs.Common.{◌≡◌, ℕ, ◌≤◌, List, [], ◌∷◌, length, true, false, refl, sym, ap, ap₂, ◌∙◌, subst, arith}
use Rattle.std.specs.List.{AllByRecursion}
use Rattle.std.specs.Str.{bytes_eq}
use Rattle.checkpoint_changes.specs.Changes.{has_entry}
use Rattle.checkpoint_changes.specs.Plain.{KeepOrder, KeepsOrder}
use Rattle.checkpoint_records.specs.Books.{choose, chosen_from, default_name, entries_in, entries_of, names_of, others_than, sessions, stored}
use Rattle.checkpoint_records.specs.Rules.{AreRising, IsName, IsStored, KeepsRules, ids_of}
use Rattle.checkpoint_records.specs.declared.records.Book.{Book}
use Rattle.checkpoint_records.specs.declared.records.Entry.{Entry}
use Rattle.checkpoint_records.specs.declared.records.Named.{Named}
use Rattle.checkpoint_records.proofs.ChoiceLaws.{choices_keep_rules}
use Rattle.checkpoint_records.proofs.NameLaws.{LacksName, choices_keep, choices_undone, default_fits, made, put_back, rising_at, stored_at, taken_out}
use Rattle.checkpoint_records.proofs.PlaceLaws.{one_counted}
use Rattle.session_engine.specs.Standing.{as_stored}

pub stored_is : (book : Book) → as_stored book ≡ choose default_name book
unfolding as_stored
stored_is book = refl

pub stored_named : (book : Book) → (as_stored book).name ≡ default_name
unfolding as_stored
stored_named book = refl

stored_pending : (book : Book) → (as_stored book).pending ≡ book.pending
unfolding as_stored
stored_pending book = refl

pub stored_rules : (book : Book) → KeepsRules book → KeepsRules (as_stored book)
unfolding as_stored
stored_rules book rules = choices_keep_rules default_name book default_fits rules

stored_sessions : (book : Book) → KeepsRules book → sessions (as_stored book) ≡ sessions book
unfolding as_stored
stored_sessions book rules = choices_keep default_name book rules

-- the order of entries is the same in the store
pub stored_order : (old book : Book) → KeepsRules old → KeepsRules book → KeepOrder old book → KeepOrder (as_stored old) (as_stored book)
stored_order old book old_rules rules order =
    let before : sessions old ≡ sessions (as_stored old) = sym (stored_sessions old old_rules) in
    let after : sessions book ≡ sessions (as_stored book) = sym (stored_sessions book rules) in
    record {
      entries = λ name.
          subst (λ (all : List Named). KeepsOrder bytes_eq (ids_of (entries_of name all)) (ids_of (entries_of name (sessions (as_stored book))))) before
          (subst (λ (all : List Named). KeepsOrder bytes_eq (ids_of (entries_of name (sessions old))) (ids_of (entries_of name all))) after (order.entries name));
      pending = rw (stored_pending old, stored_pending book) order.pending;
      stays = λ name id.
          subst (λ (all : List Named). has_entry id (entries_of name all) ≡ true → has_entry id (entries_in (others_than name (sessions (as_stored book)))) ≡ false) before
          (subst (λ (all : List Named). has_entry id (entries_of name (sessions old)) ≡ true → has_entry id (entries_in (others_than name all)) ≡ false) after (order.stays name id));
    }

-- A session is chosen in what stands in the store, and that is what stands still.
pub chosen_stands : (session : List ℕ) (stored : Book) → KeepsRules stored → stored.name ≡ default_name → as_stored (choose session stored) ≡ stored
chosen_stands session stored rules named =
    stored_is (choose session stored) ∙ subst (λ (name : List ℕ). choose name (choose session stored) ≡ stored) named (choices_undone session stored rules)

-- The book of a session is what is chosen where it stands in the store.
pub stands_chosen : (session : List ℕ) (book : Book) → KeepsRules book → book.name ≡ session → choose session (as_stored book) ≡ book
stands_chosen session book rules called =
    ap (choose session) (stored_is book) ∙ subst (λ (name : List ℕ). choose name (choose default_name book) ≡ book) called (choices_undone default_name book rules)

-- So it is of a book that has the name and the other sessions of one that keeps the rules.
pub beside_chosen : (session : List ℕ) (opening book : Book) → KeepsRules opening → opening.name ≡ session → book.name ≡ opening.name → book.others ≡ opening.others → choose session (as_stored book) ≡ book
beside_chosen session opening book rules called named same =
    let is : IsName book.name = subst (λ (name : List ℕ). IsName name) (sym named) rules.called in
    let held : AllByRecursion IsStored book.others = subst (λ (others : List Named). AllByRecursion IsStored others) (sym same) rules.stored in
    let rises : AreRising (names_of book.others) = subst (λ (others : List Named). AreRising (names_of others)) (sym same) rules.rising in
    let apart : LacksName book.name book.others = subst (λ (others : List Named). LacksName book.name others) (sym same) (subst (λ (name : List ℕ). LacksName name opening.others) (sym named) rules.apart) in
    let all : sessions (choose default_name book) ≡ sessions book = put_back default_name (sessions book) (stored_at book.name book.entries book.others is held) (rising_at book.name book.entries book.others rises apart) in
    let taken = taken_out book.name book.entries book.others apart in
    ap (choose session) (stored_is book)
    ∙ (ap (λ (name : List ℕ). choose name (choose default_name book)) (sym (named ∙ called))
    ∙ (ap (λ (l : List Named). chosen_from book.name l book.pending book.epoch) all
    ∙ ap₂ (λ (entries : List Entry) (others : List Named). made book.pending book.epoch book.name entries others) taken.0 taken.1))

pub stored_epoch : (book : Book) → (as_stored book).epoch ≡ book.epoch
unfolding as_stored
stored_epoch book = refl

-- no store has more than 8 sessions

few-beside : (name : List ℕ) (entries : List Entry) (others : List Named) → length (stored name entries others) ≤ 8 → length others ≤ 8
few-beside name [] others few = few
few-beside name (entry ∷ entries) others few = omega (arith, few, one_counted name (entry ∷ entries) (entry ∷ entries) others others refl refl (λ none. omega (arith, none)))

pub few_beside : (book : Book) → KeepsRules book → length book.others ≤ 8
few_beside book rules = few-beside book.name book.entries book.others rules.few_sessions
