use Rattle.std.proofs.Common.{arith}
use Rattle.std.proofs.lemmas.Grind.{common_steps}
use Rattle.session_clients.proofs.IdLaws.{conn-find}
use Rattle.session_clients.proofs.registered_ids.conn_among.Goals as goal

pub returns-in-Some : goal.returns-in-Some
returns-in-Some c = grind (arith, common_steps, conn-find c.args.id.now c.args.ids.now)

pub returns-in-None : goal.returns-in-None
returns-in-None c = grind (arith, common_steps, conn-find c.args.id.now c.args.ids.now)
