use Rattle.ice_setup.proofs.SaidLaws.{spelled_fits}
use Rattle.ice_setup.proofs.laws.spelled_messages_fit.Goals as goal

pub returns : goal.returns
returns c = spelled_fits
