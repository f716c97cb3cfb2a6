use Rattle.start_waves.proofs.WaveLaws.{none_lost}
use Rattle.start_waves.proofs.laws.none_is_lost.Goals as goal

pub returns : goal.returns
returns c = none_lost
