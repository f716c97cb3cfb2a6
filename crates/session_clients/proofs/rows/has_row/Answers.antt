use Rattle.std.proofs.Common.{arith}
use Rattle.std.proofs.lemmas.Grind.{common_steps}
use Rattle.session_clients.proofs.RowLaws.{known-row}
use Rattle.session_clients.proofs.rows.has_row.Goals as goal

pub returns : goal.returns
returns c = grind (arith, common_steps, known-row c.args.conn c.args.rows.now)
