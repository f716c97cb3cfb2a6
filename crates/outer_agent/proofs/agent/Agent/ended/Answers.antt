use Rattle.std.proofs.Common.{subst}
use Rattle.client_engine.specs.Driving.{Run}
use Rattle.outer_agent.specs.Doing.{stand_of}
use Rattle.outer_agent.specs.Script.{Keeper, told}
use Rattle.outer_agent.specs.Standing.{Gives, IsRun, Stand}
use Rattle.outer_agent.proofs.HearLaws.{told_by}
use Rattle.outer_agent.proofs.agent.Agent.ended.Goals as goal

pub returns-in-Ok-clause-ended : goal.returns-in-Ok-clause-ended
returns-in-Ok-clause-ended c =
    let before : Stand = stand_of c.self.inside.progress c.self.inside.starved in
    let after : Stand = stand_of c.tell.new.self c.self.inside.starved in
    let P : Stand → Type 0 = λ o. (run : Run Keeper) → IsRun run o → Gives c.in-Ok.bytes (told run c.args.success) after in
    subst P c.self.view_is (λ run is_run. told_by c.args.success c.in-Ok.bytes run before after is_run c.in-Ok.ensures.bytes c.in-Ok.ensures.keeper c.tell.ensures.splitter)
