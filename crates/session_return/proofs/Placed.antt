-- The sessions of the book that is left, and what it names.
use Rattle.std.proofs.Common.{◌≡◌, ℕ, ◌≤◌, Bool, true, false, cond, ◌||◌, List, [], ◌∷◌, ◌++◌, length, refl, sym, ap, ◌∙◌, subst, arith}
use Rattle.std.specs.List.{AllByRecursion, list_any}
use Rattle.std.specs.Str.{bytes_eq}
use Rattle.std.proofs.lemmas.List.Folds.{list_any-append}
use lib.Pointwise.{bytes_decides}
use Rattle.owned_lists.specs.declared.commands.Command.{Command}
use Rattle.checkpoint_records.specs.Books.{default_name, discards, entries_in, entries_of, others_than, sessions}
use Rattle.checkpoint_records.specs.Rules.{IsName, IsStored, KeepsRules}
use Rattle.checkpoint_records.specs.declared.records.Book.{Book}
use Rattle.checkpoint_records.specs.declared.records.Entry.{Entry}
use Rattle.checkpoint_records.specs.declared.records.Named.{Named}
use Rattle.checkpoint_records.proofs.ChoiceLaws.{discards_append, others_apart, others_rising, others_stored}
use Rattle.checkpoint_records.proofs.NameLaws.{all_rising, all_stored, put_back, taken_out}
use Rattle.checkpoint_changes.specs.Changes.{with_entries_at}
use Rattle.checkpoint_changes.proofs.SessionLaws.{AreFormed, formed_at}
use Rattle.session_return.specs.Returns.{book_of, sessions_back}
use Rattle.session_return.specs.declared.returns.Which.{Which}
use Rattle.session_return.specs.declared.returns.Which.TheVariants.{One, All}

-- ---- what entries name

module _ (test : Command → Bool) where
  pub any_of_both : (xs ys : List Entry) → list_any test (discards (xs ++ ys)) ≡ (list_any test (discards xs) || list_any test (discards ys))
  any_of_both xs ys = ap (list_any test) (discards_append xs ys) ∙ list_any-append test (discards xs) (discards ys)

  moved : (chosen first others all : Bool) → (chosen || others) ≡ all → (chosen || (first || others)) ≡ (first || all)
  moved true true others all e = refl
  moved true false others all e = e
  moved false first others all e = ap (λ (b : Bool). first || b) e

  -- the entries of one session and of the others name what those of all do
  pub named_anyhow : (name : List ℕ) (all : List Named) → list_any test (discards (entries_of name all ++ entries_in (others_than name all))) ≡ list_any test (discards (entries_in all))
  named_anyhow name [] = refl
  named_anyhow name (x ∷ all) = by (bytes_eq name x.name) (named_anyhow name all)
    where
      by : (b : Bool) → list_any test (discards (entries_of name all ++ entries_in (others_than name all))) ≡ list_any test (discards (entries_in all))
          → list_any test (discards (cond b x.entries (entries_of name all) ++ entries_in (cond b all (x ∷ others_than name all)))) ≡ list_any test (discards (entries_in (x ∷ all)))
      by true rest = refl
      by false rest =
          let chosen : List Entry = entries_of name all in
          let others : List Entry = entries_in (others_than name all) in
          any_of_both chosen (x.entries ++ others) ∙ ap (λ (b : Bool). list_any test (discards chosen) || b) (any_of_both x.entries others)
          ∙ moved (list_any test (discards chosen)) (list_any test (discards x.entries)) (list_any test (discards others)) (list_any test (discards (entries_in all))) (sym (any_of_both chosen others) ∙ rest)
          ∙ sym (any_of_both x.entries (entries_in all))

-- ---- the sessions that are left

-- who has entries has a name
named_of : (name : List ℕ) (all : List Named) → AllByRecursion IsStored all → 1 ≤ length (entries_of name all) → IsName name
named_of name [] is some = absurd (omega (arith, some))
named_of name (x ∷ all) is some = by (bytes_eq name x.name) refl some (λ more. named_of name all is.1 more)
  where
    by : (b : Bool) → bytes_eq name x.name ≡ b → 1 ≤ length (cond b x.entries (entries_of name all)) → (1 ≤ length (entries_of name all) → IsName name) → IsName name
    by true e some rest = subst IsName (sym ((bytes_decides name x.name).0 e)) is.0.called
    by false e some rest = rest some

formed_with : (name : List ℕ) (entries : List Entry) (all : List Named) → (1 ≤ length entries → IsName name) → AreFormed all → AreFormed (with_entries_at name entries all)
formed_with name [] all is f = record { stored = others_stored name all f.stored; rising = others_rising name all f.rising }
formed_with name (e ∷ entries) all is f = formed_at name (e ∷ entries) all (is (omega arith)) f

pub formed_of : (book : Book) → KeepsRules book → AreFormed (sessions book)
formed_of book rules = record { stored = all_stored book rules; rising = all_rising book rules }

pub formed_back : (which : Which) (kept present : Book) → KeepsRules kept → KeepsRules present → AreFormed (sessions_back which (sessions kept) (sessions present))
formed_back (One name) kept present k p = formed_with name (entries_of name (sessions kept)) (sessions present) (λ some. named_of name (sessions kept) (all_stored kept k) some) (formed_of present p)
formed_back All kept present k p = formed_of kept k

-- the sessions of a book of sessions are these
pub sessions_are : (all : List Named) (pending : List Command) (epoch : ℕ) → AreFormed all → sessions (book_of all pending epoch) ≡ all
sessions_are all pending epoch f = put_back default_name all f.stored f.rising

-- a session that is put in has its entries, and the others are as they were
pub put_in : (name : List ℕ) (entries : List Entry) (all : List Named) → AreFormed all → (entries_of name (with_entries_at name entries all) ≡ entries) × (others_than name (with_entries_at name entries all) ≡ others_than name all)
put_in name entries all f = taken_out name entries (others_than name all) (others_apart name all f.rising)
