use Rattle.end_bytes.proofs.FromTheFirst.{set-ups-go-on}
use Rattle.end_bytes.proofs.laws.set_ups_go_on.Goals as goal

pub returns : goal.returns
returns c = set-ups-go-on
