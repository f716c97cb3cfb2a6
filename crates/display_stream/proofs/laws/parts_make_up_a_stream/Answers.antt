use Rattle.display_stream.proofs.Shapes.{made_of}
use Rattle.display_stream.proofs.laws.parts_make_up_a_stream.Goals as goal

pub returns : goal.returns
returns c = made_of
