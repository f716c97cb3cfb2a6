use Rattle.message_streams.proofs.Cutting.{streams-of}
use Rattle.message_streams.proofs.laws.streams_are_of_messages.Goals as goal

pub returns : goal.returns
returns c = streams-of
