use Rattle.setup_agreement.proofs.Entering.{right-cookies}
use Rattle.setup_agreement.proofs.laws.right_cookies_are_let_in.Goals as goal

pub returns : goal.returns
returns c = right-cookies
