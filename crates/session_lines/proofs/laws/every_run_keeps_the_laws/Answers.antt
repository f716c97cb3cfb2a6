use Rattle.session_lines.proofs.Passing.{serves-lawfully}
use Rattle.session_lines.proofs.laws.every_run_keeps_the_laws.Goals as goal

pub returns : goal.returns
returns c = serves-lawfully
