-- The book that a body puts together, and that nothing stands in its way.
use Rattle.std.proofs.Common.{◌≡◌, ℕ, ◌<◌, List, [], ◌++◌, Option, Some, None, refl, ap, ap₂, ◌∙◌, arith, subst}
use Rattle.owned_lists.specs.declared.commands.Command.{Command}
use Rattle.checkpoint_records.specs.Books.{all_entries, chosen_from, default_name, discards, entries_in, entries_of, others_than, same_command, sessions}
use Rattle.checkpoint_records.specs.declared.records.Book.{Book}
use Rattle.checkpoint_records.specs.declared.records.Entry.{Entry}
use Rattle.checkpoint_records.specs.declared.records.Named.{Named}
use Rattle.discard_ledger.specs.Discards.{without_commands}
use Rattle.session_return.specs.Returns.{IsFound, MayComeBack, book_of, entries_back, epoch_behind, put_back, sessions_back}
use Rattle.session_return.specs.declared.obstacles.Obstacle.{Obstacle}
use Rattle.session_return.specs.declared.obstacles.Obstacle.TheVariants.{NoSession, Clash, TooManyEntries, TooManySessions}
use Rattle.session_return.specs.declared.returns.Which.{Which}
use Rattle.session_return.proofs.Placed.{named_anyhow}
use Rattle.session_return.proofs.Sifted.{left_alike}

-- what isn't an obstacle is none
pub unfound : (back : List Entry) (book : Book) (found : Option Obstacle) → IsFound back book found → ((obstacle : Obstacle) → found ≡ Some obstacle → ⊥) → IsFound back book None
unfound back book None is other = is
unfound back book (Some obstacle) is other = absurd (other obstacle refl)

module _ (which : Which) (kept present : Book) (back : List Entry) (book : Book) (is_back : back ≡ entries_back which kept) (is_book : book ≡ book_of (sessions_back which (sessions kept) (sessions present)) present.pending 0) where
  abbrev draft : Book
  draft = book_of (sessions_back which (sessions kept) (sessions present)) present.pending 0

  pub told_clear : (epoch : ℕ) → IsFound back book None → (epoch ≡ epoch_behind present.epoch kept.epoch) × (epoch < 4294967295) → MayComeBack which kept present
  told_clear epoch is last =
      let clear : IsFound (entries_back which kept) draft None = subst (λ (b : Book). IsFound (entries_back which kept) b None) is_book (subst (λ (es : List Entry). IsFound es book None) is_back is) in
      record {
        some = clear NoSession (omega arith);
        ids_differ = clear Clash (omega arith);
        few_entries = clear TooManyEntries (omega arith);
        few_sessions = clear TooManySessions (omega arith);
        epoch = omega (arith, last.0, last.1);
      }

  pub told_book : (epoch : ℕ) (left : Book) → left ≡ record book { epoch = epoch } → epoch ≡ epoch_behind present.epoch kept.epoch → left ≡ put_back which kept present
  told_book epoch left is same = is ∙ ap (λ (b : Book). record b { epoch = epoch }) is_book ∙ ap (λ (e : ℕ). record draft { epoch = e }) same

-- a book of sessions that is put together

pub made_book : (name : List ℕ) (all : List Named) (pending none named left : List Command) (book : Book) → name ≡ default_name → none ≡ [] → book ≡ chosen_from name all none 0 → named ≡ discards (all_entries book) → left ≡ without_commands named pending
    → record book { pending = left } ≡ book_of all pending 0
made_book name all pending none named left book is_name is_none is_book is_named is_left =
    let same : left ≡ without_commands (discards (entries_in all)) pending = is_left ∙ ap (λ (gone : List Command). without_commands gone pending) (is_named ∙ ap (λ (b : Book). discards (all_entries b)) is_book)
    ∙ left_alike (discards (entries_of name all ++ entries_in (others_than name all))) (discards (entries_in all)) (λ command. named_anyhow (same_command command) name all) pending in
    ap (λ (b : Book). record b { pending = left }) is_book ∙ ap₂ (λ (n : List ℕ) (l : List Command). chosen_from n all l 0) is_name same
