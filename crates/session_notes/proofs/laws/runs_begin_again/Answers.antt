use Rattle.session_notes.proofs.Begun.{begins-again}
use Rattle.session_notes.proofs.laws.runs_begin_again.Goals as goal

pub returns : goal.returns
returns c = begins-again
