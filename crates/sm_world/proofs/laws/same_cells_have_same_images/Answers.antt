use Rattle.sm_world.proofs.Cells.{same_images}
use Rattle.sm_world.proofs.laws.same_cells_have_same_images.Goals as goal

pub returns : goal.returns
returns c = same_images
