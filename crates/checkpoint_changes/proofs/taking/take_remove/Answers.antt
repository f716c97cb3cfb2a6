use Rattle.checkpoint_changes.proofs.TakeLaws.{no_remove, remove_found}
use Rattle.checkpoint_changes.proofs.taking.take_remove.Goals as goal

pub returns-in-Some : goal.returns-in-Some
returns-in-Some c = λ format. remove_found format c.args.bytes.now c.in-Some.id c.in-Some.rest.now (rw c.in-Some.is at c.in_ok-id.ensures)

pub returns-in-None : goal.returns-in-None
returns-in-None c = λ format. no_remove format c.args.bytes.now (rw c.in-None.is at c.in_ok-id.ensures)
