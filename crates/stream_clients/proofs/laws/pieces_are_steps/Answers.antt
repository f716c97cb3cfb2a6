use Rattle.stream_clients.proofs.Pieces.{pieces-steps}
use Rattle.stream_clients.proofs.laws.pieces_are_steps.Goals as goal

pub returns : goal.returns
returns c = pieces-steps
