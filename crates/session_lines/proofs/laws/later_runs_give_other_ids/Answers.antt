use Rattle.session_lines.proofs.LaterRuns.{later-runs}
use Rattle.session_lines.proofs.laws.later_runs_give_other_ids.Goals as goal

pub returns : goal.returns
returns c = later-runs
