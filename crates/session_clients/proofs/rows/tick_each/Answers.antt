use Rattle.std.proofs.Common.{arith}
use Rattle.std.proofs.lemmas.Grind.{common_steps}
use Rattle.std.proofs.lemmas.List.Edits.{map_over_more}
use Rattle.session_model.specs.declared.events.SessionEvent.TheVariants.{Tick}
use Rattle.session_model.specs.Moves.{Outside}
use Rattle.session_clients.specs.Rows.{client_by}
use Rattle.session_clients.proofs.rows.tick_each.Goals as goal

pub loop-row-preserved : goal.loop-row-preserved
loop-row-preserved c = grind (arith, common_steps, map_over_more (client_by (Outside (Tick c.args.milliseconds))))
