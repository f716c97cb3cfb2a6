use Rattle.setup_agreement.proofs.Wiring.{other-versions-by-bytes}
use Rattle.setup_agreement.proofs.laws.other_versions_are_kept_out_by_bytes.Goals as goal

pub returns : goal.returns
returns c = other-versions-by-bytes
