use Rattle.setup_agreement.proofs.Wiring.{right-cookies-by-bytes}
use Rattle.setup_agreement.proofs.laws.right_cookies_are_let_in_by_bytes.Goals as goal

pub returns : goal.returns
returns c = right-cookies-by-bytes
