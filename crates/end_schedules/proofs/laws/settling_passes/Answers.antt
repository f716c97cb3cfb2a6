use Rattle.end_schedules.proofs.Runs.{settling-passes}
use Rattle.end_schedules.proofs.laws.settling_passes.Goals as goal

pub returns : goal.returns
returns c = settling-passes
