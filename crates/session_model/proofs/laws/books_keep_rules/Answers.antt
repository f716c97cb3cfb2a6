use Rattle.session_model.proofs.WholeReply.{books-keep}
use Rattle.session_model.proofs.laws.books_keep_rules.Goals as goal

pub returns : goal.returns
returns c = books-keep
