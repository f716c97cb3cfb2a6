use Rattle.session_state.proofs.Taking.{openings-stand}
use Rattle.session_state.proofs.laws.openings_stand.Goals as goal

pub returns : goal.returns
returns c = openings-stand
