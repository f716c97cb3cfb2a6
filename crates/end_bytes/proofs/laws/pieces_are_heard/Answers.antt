use Rattle.end_bytes.proofs.Parts.{pieces-heard}
use Rattle.end_bytes.proofs.laws.pieces_are_heard.Goals as goal

pub returns : goal.returns
returns c = pieces-heard
