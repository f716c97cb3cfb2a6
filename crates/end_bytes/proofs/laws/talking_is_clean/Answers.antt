use Rattle.end_bytes.proofs.Quiet.{talking-clean}
use Rattle.end_bytes.proofs.laws.talking_is_clean.Goals as goal

pub returns : goal.returns
returns c = talking-clean
