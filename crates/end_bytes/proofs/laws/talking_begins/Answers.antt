use Rattle.end_bytes.proofs.Begins.{talking-begins}
use Rattle.end_bytes.proofs.laws.talking_begins.Goals as goal

pub returns : goal.returns
returns c = talking-begins
