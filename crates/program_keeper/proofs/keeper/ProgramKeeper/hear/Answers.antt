use Rattle.std.proofs.Common.{subst}
use Rattle.client_engine.specs.Driving.{Run}
use Rattle.program_keeper.specs.Doing.{stand_of}
use Rattle.program_keeper.specs.Script.{Keeper, piece_heard}
use Rattle.program_keeper.specs.Standing.{Gives, IsRun, Stand}
use Rattle.program_keeper.proofs.HearLaws.{heard}
use Rattle.program_keeper.proofs.HeedLaws.{composes, stays_stopped}
use Rattle.program_keeper.proofs.keeper.ProgramKeeper.hear.Goals as goal

pub take_piece-requires-clause-composes : goal.take_piece-requires-clause-composes
take_piece-requires-clause-composes c = composes

pub take_piece-requires-clause-stops : goal.take_piece-requires-clause-stops
take_piece-requires-clause-stops c = stays_stopped

pub returns-in-Ok-clause-hears : goal.returns-in-Ok-clause-hears
returns-in-Ok-clause-hears c =
    let after : Stand = stand_of c.take_piece.new.notes c.self.inside.starved in
    let P : Stand → Type 0 = λ o. (run : Run Keeper) → IsRun run o → Gives c.take_piece.new.to (piece_heard run c.args.piece.now) after in
    subst P c.self.view_is (λ run is_run. heard c.new-acts.result c.take_piece.new.to run c.args.piece.now after c.new-acts.ensures (c.in-Ok.ensures run is_run))
