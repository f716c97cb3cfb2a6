use Rattle.end_bytes.proofs.Opens.{clients-open}
use Rattle.end_bytes.proofs.laws.clients_open.Goals as goal

pub returns : goal.returns
returns c = clients-open
