use Rattle.std.proofs.Common.{subst}
use Rattle.client_engine.specs.Driving.{Run}
use Rattle.outer_agent.specs.Doing.{stand_of}
use Rattle.outer_agent.specs.Script.{Keeper, closed}
use Rattle.outer_agent.specs.Standing.{Gives, IsRun, Stand}
use Rattle.outer_agent.proofs.HearLaws.{closed_by}
use Rattle.outer_agent.proofs.agent.Agent.close.Goals as goal

pub returns-in-Ok-clause-closed : goal.returns-in-Ok-clause-closed
returns-in-Ok-clause-closed c =
    let before : Stand = stand_of c.self.inside.progress c.self.inside.starved in
    let after : Stand = stand_of c.close.new.self c.self.inside.starved in
    let P : Stand → Type 0 = λ o. (run : Run Keeper) → IsRun run o → Gives c.in-Ok.bytes (closed run) after in
    subst P c.self.view_is (λ run is_run. closed_by c.in-Ok.bytes run before after is_run c.in-Ok.ensures.bytes c.in-Ok.ensures.keeper c.close.ensures.splitter)
