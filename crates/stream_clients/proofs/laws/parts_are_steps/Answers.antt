use Rattle.stream_clients.proofs.Stepping.{parts-steps}
use Rattle.stream_clients.proofs.laws.parts_are_steps.Goals as goal

pub returns : goal.returns
returns c = parts-steps
