use Rattle.end_bytes.proofs.Beside.{others-beside}
use Rattle.end_bytes.proofs.laws.others_happen_beside.Goals as goal

pub returns : goal.returns
returns c = others-beside
