use Rattle.display_stream.proofs.Shapes.{same_parts}
use Rattle.display_stream.proofs.laws.parts_do_not_depend_on_pieces.Goals as goal

pub returns : goal.returns
returns c = same_parts
