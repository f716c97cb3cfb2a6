use Rattle.std.proofs.Common.{subst}
use Rattle.client_engine.specs.Driving.{Run}
use Rattle.program_keeper.specs.Doing.{stand_of}
use Rattle.program_keeper.specs.Programs.{noted_windows}
use Rattle.program_keeper.specs.Script.{Keeper, in_run, knows, shown}
use Rattle.program_keeper.specs.Standing.{Gives, IsRun, Stand}
use Rattle.program_keeper.proofs.HearLaws.{said}
use Rattle.program_keeper.proofs.HeedLaws.{stopped_settled}
use Rattle.program_keeper.proofs.keeper.ProgramKeeper.show.Goals as goal

pub returns-in-Ok-clause-shown : goal.returns-in-Ok-clause-shown
returns-in-Ok-clause-shown c =
    let before : Stand = stand_of c.self.inside.progress c.self.inside.starved in
    let after : Stand = stand_of c.show_windows.new.self c.self.inside.starved in
    let P : Stand → Type 0 = λ o. (run : Run Keeper) → IsRun run o → Gives c.in-Ok.acts (in_run (shown c.args.windows) run) after in
    subst P c.self.view_is (λ run is_run. said (shown c.args.windows) c.in-Ok.acts run before after (λ keeper. stopped_settled (knows (noted_windows c.args.windows keeper.program) keeper)) is_run c.in-Ok.ensures.acts c.in-Ok.ensures.keeper c.show_windows.ensures.splitter)
