use Rattle.end_bytes.proofs.Errors.{no-errors}
use Rattle.end_bytes.proofs.laws.clients_say_no_error.Goals as goal

pub returns : goal.returns
returns c = no-errors
