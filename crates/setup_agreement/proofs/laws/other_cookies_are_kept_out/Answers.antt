use Rattle.setup_agreement.proofs.Refusing.{other-cookies}
use Rattle.setup_agreement.proofs.laws.other_cookies_are_kept_out.Goals as goal

pub returns : goal.returns
returns c = other-cookies
