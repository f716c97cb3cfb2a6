use Rattle.start_waves.proofs.WaveLaws.{earlier_first}
use Rattle.start_waves.proofs.laws.earlier_go_first.Goals as goal

pub returns : goal.returns
returns c = earlier_first
