use Rattle.end_bytes.proofs.Connecting.{set-ups-begin}
use Rattle.end_bytes.proofs.laws.set_ups_begin.Goals as goal

pub returns : goal.returns
returns c = set-ups-begin
