use Rattle.end_bytes.proofs.Outcomes.{hears-messages}
use Rattle.end_bytes.proofs.laws.managers_hear_messages.Goals as goal

pub returns : goal.returns
returns c = hears-messages
