use Rattle.end_bytes.proofs.Talking.{talking-goes-on}
use Rattle.end_bytes.proofs.laws.talking_goes_on.Goals as goal

pub returns : goal.returns
returns c = talking-goes-on
