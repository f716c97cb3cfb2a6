use Rattle.agreement_marks.proofs.Since.{began-since}
use Rattle.agreement_marks.proofs.laws.agreed_rounds_began_since.Goals as goal

pub returns : goal.returns
returns c = began-since
