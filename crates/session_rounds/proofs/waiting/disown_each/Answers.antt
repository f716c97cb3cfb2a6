use Rattle.std.proofs.Common.{arith}
use Rattle.std.proofs.lemmas.Grind.{common_steps}
use Rattle.std.proofs.lemmas.List.Edits.{map_over_more}
use Rattle.session_model.specs.Waits.{disowned}
use Rattle.session_rounds.proofs.waiting.disown_each.Goals as goal

pub loop-wait-preserved : goal.loop-wait-preserved
loop-wait-preserved c = grind (arith, common_steps, map_over_more (disowned c.args.conn))
