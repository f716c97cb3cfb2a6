use Rattle.end_bytes.proofs.Talking.{talking-stays}
use Rattle.end_bytes.proofs.laws.talking_stays.Goals as goal

pub returns : goal.returns
returns c = talking-stays
