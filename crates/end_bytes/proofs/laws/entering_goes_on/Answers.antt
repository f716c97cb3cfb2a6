use Rattle.end_bytes.proofs.Enters.{entering-goes-on}
use Rattle.end_bytes.proofs.laws.entering_goes_on.Goals as goal

pub returns : goal.returns
returns c = entering-goes-on
