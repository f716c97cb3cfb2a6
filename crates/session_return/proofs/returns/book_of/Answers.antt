use Rattle.session_return.proofs.Told.{made_book}
use Rattle.session_return.proofs.returns.book_of.Goals as goal

pub returns : goal.returns
returns c =
    made_book c.in_ok-name.name c.args.all c.args.pending.now c.new.result c.in_ok-named.named c.in_ok-book-2.field-0 c.in_ok-book.book c.in_ok-name.ensures c.new.ensures c.in_ok-book.ensures c.in_ok-named.ensures c.in_ok-book-2.ensures
