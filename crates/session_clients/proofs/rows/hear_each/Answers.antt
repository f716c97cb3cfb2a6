use Rattle.std.proofs.Common.{arith}
use Rattle.std.proofs.lemmas.Grind.{common_steps}
use Rattle.std.proofs.lemmas.List.Edits.{map_over_more}
use Rattle.session_model.specs.Phases.{may_interact}
use Rattle.session_clients.specs.Rows.{client_heard}
use Rattle.session_clients.proofs.rows.hear_each.Goals as goal

pub loop-row-preserved : goal.loop-row-preserved
loop-row-preserved c = grind (arith, common_steps, map_over_more (client_heard c.args.conn c.args.message.now (may_interact c.args.wanted)))
