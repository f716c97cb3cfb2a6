use Rattle.message_streams.proofs.Cutting.{cuts-of}
use Rattle.message_streams.proofs.laws.cuts_are_of_messages.Goals as goal

pub returns : goal.returns
returns c = cuts-of
