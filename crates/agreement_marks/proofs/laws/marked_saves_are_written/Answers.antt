use Rattle.agreement_marks.proofs.Written.{saves-written}
use Rattle.agreement_marks.proofs.laws.marked_saves_are_written.Goals as goal

pub returns : goal.returns
returns c = saves-written
