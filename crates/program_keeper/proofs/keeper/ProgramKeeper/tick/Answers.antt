use Rattle.std.proofs.Common.{subst}
use Rattle.client_engine.specs.Driving.{Run}
use Rattle.program_keeper.specs.Doing.{stand_of}
use Rattle.program_keeper.specs.Script.{Keeper, in_run, ticked}
use Rattle.program_keeper.specs.Standing.{Gives, IsRun, Stand}
use Rattle.program_keeper.proofs.HearLaws.{said}
use Rattle.program_keeper.proofs.HeedLaws.{stopped_ticked}
use Rattle.program_keeper.proofs.keeper.ProgramKeeper.tick.Goals as goal

pub returns-in-Ok-clause-ticked : goal.returns-in-Ok-clause-ticked
returns-in-Ok-clause-ticked c =
    let before : Stand = stand_of c.self.inside.progress c.self.inside.starved in
    let after : Stand = stand_of c.tick.new.self c.self.inside.starved in
    let P : Stand → Type 0 = λ o. (run : Run Keeper) → IsRun run o → Gives c.in-Ok.acts (in_run (ticked c.args.elapsed c.args.answered) run) after in
    subst P c.self.view_is (λ run is_run. said (ticked c.args.elapsed c.args.answered) c.in-Ok.acts run before after (stopped_ticked c.args.elapsed c.args.answered) is_run c.in-Ok.ensures.acts c.in-Ok.ensures.keeper c.tick.ensures.splitter)
