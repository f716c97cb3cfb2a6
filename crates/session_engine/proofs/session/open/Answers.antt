use Rattle.session_engine.proofs.Performing.{told_none}
use Rattle.session_engine.proofs.session.open.Goals as goal

pub returns-in-Err-clause-done : goal.returns-in-Err-clause-done
returns-in-Err-clause-done g c = told_none _ _ _
