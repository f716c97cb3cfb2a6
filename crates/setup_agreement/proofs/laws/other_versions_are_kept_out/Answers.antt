use Rattle.setup_agreement.proofs.Refusing.{other-versions}
use Rattle.setup_agreement.proofs.laws.other_versions_are_kept_out.Goals as goal

pub returns : goal.returns
returns c = other-versions
