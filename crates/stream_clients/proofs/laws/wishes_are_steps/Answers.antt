use Rattle.stream_clients.proofs.Stepping.{wishes-steps}
use Rattle.stream_clients.proofs.laws.wishes_are_steps.Goals as goal

pub returns : goal.returns
returns c = wishes-steps
