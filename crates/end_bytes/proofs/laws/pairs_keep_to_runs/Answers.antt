use Rattle.end_bytes.proofs.Sessions.{pairs-run}
use Rattle.end_bytes.proofs.laws.pairs_keep_to_runs.Goals as goal

pub returns : goal.returns
returns c = pairs-run
