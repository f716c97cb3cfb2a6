use Rattle.end_bytes.proofs.Opens.{managers-set-up}
use Rattle.end_bytes.proofs.laws.managers_set_up.Goals as goal

pub returns : goal.returns
returns c = managers-set-up
