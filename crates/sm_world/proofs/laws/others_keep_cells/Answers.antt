use Rattle.sm_world.proofs.Cells.{quiet_cells}
use Rattle.sm_world.proofs.laws.others_keep_cells.Goals as goal

pub returns : goal.returns
returns c = quiet_cells
