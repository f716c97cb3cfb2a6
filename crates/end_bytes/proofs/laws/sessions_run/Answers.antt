use Rattle.end_bytes.proofs.Runs.{sessions-run}
use Rattle.end_bytes.proofs.laws.sessions_run.Goals as goal

pub returns : goal.returns
returns c = sessions-run
