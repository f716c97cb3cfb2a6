use Rattle.end_schedules.proofs.Folds.{no-unexpected}
use Rattle.end_schedules.proofs.laws.client_sends_no_bad_state.Goals as goal

pub returns : goal.returns
returns c = no-unexpected
