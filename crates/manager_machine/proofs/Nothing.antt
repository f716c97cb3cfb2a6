-- The book of nobody has no other sessions.
use Rattle.std.proofs.Common.{◌≡◌, ◌≤◌, length, arith, subst, sym}
use Rattle.checkpoint_records.specs.Books.{empty_book}
use Rattle.checkpoint_records.specs.declared.records.Book.{Book}

pub few-nothing : (book : Book) → book ≡ empty_book → length book.others ≤ 7
few-nothing book e = subst (λ (b : Book). length b.others ≤ 7) (sym e) (omega arith)
