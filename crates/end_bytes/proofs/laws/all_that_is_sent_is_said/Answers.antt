use Rattle.end_bytes.proofs.Said.{all-sent}
use Rattle.end_bytes.proofs.laws.all_that_is_sent_is_said.Goals as goal

pub returns : goal.returns
returns c = all-sent
