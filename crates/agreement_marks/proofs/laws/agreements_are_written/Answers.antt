use Rattle.agreement_marks.proofs.Written.{books-written}
use Rattle.agreement_marks.proofs.laws.agreements_are_written.Goals as goal

pub returns : goal.returns
returns c = books-written
