use Rattle.end_bytes.proofs.Quiet.{quiet-ends}
use Rattle.end_bytes.proofs.laws.quiet_ends_agree.Goals as goal

pub returns : goal.returns
returns c = quiet-ends
