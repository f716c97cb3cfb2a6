use Rattle.std.proofs.Common.{arith}
use Rattle.std.specs.Prelude.{[]}
use Rattle.std.proofs.lemmas.Grind.{common_steps}
use Rattle.session_clients.specs.declared.client.Client.{Client}
use Rattle.session_clients.proofs.RowLaws.{known-row, part-row}
use Rattle.session_clients.proofs.rows.table_in.Goals as goal

pub returns-clause-table : goal.returns-clause-table
returns-clause-table c = grind (arith, common_steps, part-row [] (λ (k : Client). k.table) c.args.conn c.args.rows.now)

pub returns-in_err-row-clause-known : goal.returns-in_err-row-clause-known
returns-in_err-row-clause-known c = grind (arith, common_steps, known-row c.args.conn c.args.rows.now)

pub returns-clause-known : goal.returns-clause-known
returns-clause-known c = grind (arith, common_steps, known-row c.args.conn c.args.rows.now)

pub returns-in_err-row-clause-table : goal.returns-in_err-row-clause-table
returns-in_err-row-clause-table c = grind (arith, common_steps, part-row [] (λ (k : Client). k.table) c.args.conn c.args.rows.now)
