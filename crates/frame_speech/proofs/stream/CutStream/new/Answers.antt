use Rattle.frame_speech.proofs.Streams.{at_beginning}
use Rattle.frame_speech.proofs.stream.CutStream.new.Goals as goal

pub returns : goal.returns
returns c = at_beginning c.new.result c.new.ensures
