use Rattle.end_schedules.proofs.Folds.{no-bad-state}
use Rattle.end_schedules.proofs.laws.manager_sends_no_bad_state.Goals as goal

pub returns : goal.returns
returns c = no-bad-state
