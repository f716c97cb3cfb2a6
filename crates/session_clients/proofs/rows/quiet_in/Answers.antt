use Rattle.std.proofs.Common.{arith}
use Rattle.std.proofs.lemmas.Grind.{common_steps}
use Rattle.session_clients.specs.declared.client.Client.{Client}
use Rattle.session_clients.proofs.RowLaws.{part-row}
use Rattle.session_clients.proofs.rows.quiet_in.Goals as goal

pub returns-in-Some : goal.returns-in-Some
returns-in-Some c = grind (arith, common_steps, part-row 0 (λ (k : Client). k.quiet) c.args.conn c.args.rows.now)

pub returns-in-None : goal.returns-in-None
returns-in-None c = grind (arith, common_steps, part-row 0 (λ (k : Client). k.quiet) c.args.conn c.args.rows.now)
