use Rattle.display_stream.proofs.Shapes.{no_more}
use Rattle.display_stream.proofs.laws.a_broken_stream_has_no_more_parts.Goals as goal

pub returns : goal.returns
returns c = no_more
