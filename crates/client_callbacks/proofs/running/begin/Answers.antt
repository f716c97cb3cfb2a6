use Rattle.client_callbacks.proofs.DoingLaws.{sends_never}
use Rattle.client_callbacks.proofs.running.begin.Goals as goal

pub returns-in-Err-clause-sends : goal.returns-in-Err-clause-sends
returns-in-Err-clause-sends g c = sends_never _ _
