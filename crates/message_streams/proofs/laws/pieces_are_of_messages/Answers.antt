use Rattle.message_streams.proofs.Cutting.{pieces-of}
use Rattle.message_streams.proofs.laws.pieces_are_of_messages.Goals as goal

pub returns : goal.returns
returns c = pieces-of
