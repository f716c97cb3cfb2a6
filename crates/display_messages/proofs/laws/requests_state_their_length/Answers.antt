use Rattle.display_messages.proofs.LengthLaws.{state_their_length}
use Rattle.display_messages.proofs.laws.requests_state_their_length.Goals as goal

pub returns : goal.returns
returns c = state_their_length
