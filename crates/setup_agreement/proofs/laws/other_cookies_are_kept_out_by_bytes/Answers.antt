use Rattle.setup_agreement.proofs.Wiring.{other-cookies-by-bytes}
use Rattle.setup_agreement.proofs.laws.other_cookies_are_kept_out_by_bytes.Goals as goal

pub returns : goal.returns
returns c = other-cookies-by-bytes
