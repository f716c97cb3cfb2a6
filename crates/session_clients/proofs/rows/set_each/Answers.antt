use Rattle.std.proofs.Common.{arith}
use Rattle.std.proofs.lemmas.Grind.{common_steps}
use Rattle.std.proofs.lemmas.List.Edits.{map_over_more}
use Rattle.ice_values.specs.Walks.{walk_left}
use Rattle.session_clients.specs.Rows.{client_setting}
use Rattle.session_clients.proofs.rows.set_each.Goals as goal

pub loop-row-preserved : goal.loop-row-preserved
loop-row-preserved c = grind (arith, common_steps, map_over_more (client_setting c.args.conn (walk_left c.args.walk)))
