use Rattle.session_state.proofs.Taking.{takings-stand}
use Rattle.session_state.proofs.laws.takings_stand.Goals as goal

pub returns : goal.returns
returns c = takings-stand
