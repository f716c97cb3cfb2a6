-- Runs over books of later epochs give other IDs.
use Rattle.std.proofs.Common.{◌≡◌, ℕ, List, ◌+◌, ◌<◌, ◌^◌, sym, ◌∙◌, arith}
use Rattle.std.specs.List.{AllByRecursion, Contains}
use Rattle.checkpoint_records.specs.declared.records.Book.{Book}
use Rattle.session_model.proofs.Ids.{same-epoch}
use Rattle.session_notes.specs.Keeping.{IsOfRun, book_in, new_ids}
use Rattle.session_notes.proofs.Tests.{contains-all}
use Rattle.session_lines.specs.Files.{LaterRunsGiveOtherIds}
use Rattle.session_lines.specs.Lines.{notes}
use Rattle.session_lines.proofs.Fronts.{laws-hold}

below-epoch : (e f : ℕ) → e < f → f < 2 ^ 32 → e < 2 ^ 32
below-epoch e f l k = grind arith

not-same : (e f : ℕ) → e < f → ¬ (e + 1 ≡ f + 1)
not-same e f l s = grind arith

later-below : (e f : ℕ) → e < f → f + 1 < 2 ^ 32 → e + 1 < 2 ^ 32
later-below e f l k = grind arith

of-run : (book : Book) (ids : List (List ℕ)) (b : Book) (id : List ℕ) → AllByRecursion (λ i. IsOfRun (book.epoch + 1) i × (b.epoch ≡ book.epoch + 1)) ids → Contains ids id → IsOfRun (book.epoch + 1) id
of-run book ids b id all has = (contains-all (λ i. IsOfRun (book.epoch + 1) i × (b.epoch ≡ book.epoch + 1)) id ids has all).0

pub later-runs : LaterRunsGiveOtherIds
later-runs config next book saved before room seen later first second id new again =
    let one : IsOfRun (book.epoch + 1) id = of-run book (new_ids (notes seen)) (book_in book (notes seen)) id (laws-hold config book seen first).new_ids_are_of_the_run new in
    let two : IsOfRun (saved.epoch + 1) id = of-run saved (new_ids (notes later)) (book_in saved (notes later)) id (laws-hold next saved later second).new_ids_are_of_the_run again in
    not-same book.epoch saved.epoch before
    (same-epoch (book.epoch + 1) (saved.epoch + 1) one.number two.number (later-below book.epoch saved.epoch before room) room (sym one.is ∙ two.is))
