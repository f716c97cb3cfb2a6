use Rattle.std.proofs.Common.{rules, ◌≡◌, [], Ok, Err, subst}
use Rattle.client_engine.specs.Driving.{Run}
use Rattle.named_joiner.specs.Doing.{BreaksPiece, desk, stand_of}
use Rattle.named_joiner.specs.Hearing.{Hears}
use Rattle.named_joiner.specs.Script.{Keeper}
use Rattle.named_joiner.specs.Standing.{IsRun, Joining}
use Rattle.named_joiner.proofs.HearLaws.{heard}
use Rattle.named_joiner.proofs.PieceLaws.{composes, piece_told, stays_stopped}
use Rattle.named_joiner.proofs.joiner.NamedJoiner.hear.Goals as goal

pub take_piece-requires-clause-composes : goal.take_piece-requires-clause-composes
take_piece-requires-clause-composes g c = composes g.S.NamedSaves.answers g.D.NamedDies.gives

pub take_piece-requires-clause-stops : goal.take_piece-requires-clause-stops
take_piece-requires-clause-stops g c = stays_stopped

pub returns-in-Ok-clause-hears : goal.returns-in-Ok-clause-hears
returns-in-Ok-clause-hears g c =
    let none : c.self.inside.progress.bytes ≡ [] = search rules in
    let P : Joining _ _ → Type 0 = λ o. (run : Run Keeper) → IsRun run o.stand → Hears g.S.NamedSaves.answers g.D.NamedDies.gives c.reply.result o (record { stand = stand_of c.reply.new.self; callbacks = c.take_piece.new.keeper }) run c.args.piece.now in
    subst P c.self.view_is (λ run is_run. heard g.S.NamedSaves.answers g.D.NamedDies.gives c.reply.result c.self.inside.progress.bytes c.take_piece.new.notes (record { stand = stand_of c.self.inside.progress; callbacks = c.self.inside.callers }) c.take_piece.new.keeper (stand_of c.reply.new.self) run c.args.piece.now none (piece_told g.S.NamedSaves.answers g.D.NamedDies.gives (Ok tt) (desk c.self.inside.progress.bytes c.self.inside.callers) (desk c.take_piece.new.notes.bytes c.take_piece.new.keeper) run c.args.piece.now c.take_piece.new.notes (c.in-Ok.ensures run is_run)) c.reply.ensures.replies c.reply.ensures.stand)

pub returns-in-Err-clause-hears : goal.returns-in-Err-clause-hears
returns-in-Err-clause-hears g c =
    let P : Joining _ _ → Type 0 = λ o. (run : Run Keeper) → IsRun run o.stand → BreaksPiece g.S.NamedSaves.answers g.D.NamedDies.gives o.callbacks c.take_piece.new.keeper run c.args.piece.now in
    subst P c.self.view_is (λ run is_run. piece_told g.S.NamedSaves.answers g.D.NamedDies.gives (Err c.in-Err.field-0) (desk c.self.inside.progress.bytes c.self.inside.callers) (desk c.take_piece.new.notes.bytes c.take_piece.new.keeper) run c.args.piece.now c.take_piece.new.notes (c.in-Err.ensures run is_run))
