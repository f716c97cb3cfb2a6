use Rattle.checkpoint_changes.proofs.TakeLaws.{no_pend, pend_found}
use Rattle.checkpoint_changes.proofs.taking.take_pend.Goals as goal

pub returns-in-Some : goal.returns-in-Some
returns-in-Some c = λ format. pend_found format c.args.bytes.now c.in-Some.command c.in-Some.rest.now (rw c.in-Some.is at c.in_ok-command.ensures)

pub returns-in-None : goal.returns-in-None
returns-in-None c = λ format. no_pend format c.args.bytes.now (rw c.in-None.is at c.in_ok-command.ensures)
