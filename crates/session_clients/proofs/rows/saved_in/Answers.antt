use Rattle.std.proofs.Common.{arith}
use Rattle.std.specs.Prelude.{None}
use Rattle.std.proofs.lemmas.Grind.{common_steps}
use Rattle.session_clients.specs.declared.client.Client.{Client}
use Rattle.session_clients.proofs.RowLaws.{part-row}
use Rattle.session_clients.proofs.rows.saved_in.Goals as goal

pub returns-in_err-row : goal.returns-in_err-row
returns-in_err-row c = grind (arith, common_steps, part-row None (λ (k : Client). k.saved) c.args.conn c.args.rows.now)

pub returns : goal.returns
returns c = grind (arith, common_steps, part-row None (λ (k : Client). k.saved) c.args.conn c.args.rows.now)
