use Rattle.std.proofs.Common.{rules, ◌≡◌, ℕ, List, length, Option, None, Some, sym, subst}
use Rattle.ice_framing.proofs.Fronts.{rest_is}
use Rattle.client_engine.specs.Cutting.{Cuts}
use Rattle.client_engine.specs.declared.engine.Taken.{Taken}
use Rattle.client_engine.proofs.Kept.{Amid, amid_begun, amid_done, amid_ended, amid_failed, amid_more, amid_never, PieceIn, for_run, none_left, own_run, served}
use Rattle.client_engine.proofs.keeping.take_piece.Goals as goal

pub loop-left-init : goal.loop-left-init
loop-left-init g c = amid_begun g.K.Keeps.unasked g.K.Keeps.talk_of g.K.Keeps.stand_at g.K.Keeps.says g.K.Keeps.cued g.K.Keeps.carries c.requires.composes (g.K.Keeps.desk c.args.keeper.now c.args.to.now c.args.notes.now) (g.K.Keeps.keeper c.args.notes.now) (g.K.Keeps.core c.args.notes.now).splitter c.args.piece.now

pub loop-left-preserved : goal.loop-left-preserved
loop-left-preserved g c =
    subst (λ (l : List ℕ). Amid g.K.Keeps.unasked g.K.Keeps.talk_of g.K.Keeps.stand_at g.K.Keeps.says g.K.Keeps.cued g.K.Keeps.carries (g.K.Keeps.desk c.args.keeper.now c.args.to.now c.args.notes.now) (g.K.Keeps.desk c.serve.new.self c.serve.new.to c.serve.new.notes) (g.K.Keeps.keeper c.args.notes.now) (g.K.Keeps.core c.args.notes.now).splitter c.args.piece.now l (g.K.Keeps.keeper c.serve.new.notes) (g.K.Keeps.core c.serve.new.notes).splitter) (sym (rest_is c.loop-left.left.now c.in-Ok-Some.taken.count))
    (amid_more g.K.Keeps.unasked g.K.Keeps.talk_of g.K.Keeps.stand_at g.K.Keeps.says g.K.Keeps.cued g.K.Keeps.carries c.requires.composes c.requires.stops (g.K.Keeps.desk c.args.keeper.now c.args.to.now c.args.notes.now) (g.K.Keeps.desk c.loop-left.keeper c.loop-left.to c.loop-left.notes) (g.K.Keeps.desk c.serve.new.self c.serve.new.to c.serve.new.notes) (g.K.Keeps.keeper c.args.notes.now) (g.K.Keeps.keeper c.loop-left.notes) (g.K.Keeps.keeper c.serve.new.notes) (g.K.Keeps.core c.args.notes.now).splitter (g.K.Keeps.core c.loop-left.notes) (g.K.Keeps.core c.cut.new.notes) (g.K.Keeps.core c.serve.new.notes).splitter c.args.piece.now c.loop-left.left.now c.in-Ok-Some.taken c.loop-left.invariant (g.met.K.Keeps.talk_is c.loop-left.notes)
    (subst (λ (o : Option Taken). Cuts (g.K.Keeps.core c.loop-left.notes) c.loop-left.left.now o (g.K.Keeps.core c.cut.new.notes)) c.in-Ok-Some.field-0-is c.in-Ok-Some.ensures.cuts)
    (served g.K.Keeps.unasked g.K.Keeps.talk_of g.K.Keeps.stand_at g.K.Keeps.says g.K.Keeps.cued g.K.Keeps.carries (g.K.Keeps.desk c.loop-left.keeper c.loop-left.to c.cut.new.notes) (g.K.Keeps.desk c.loop-left.keeper c.loop-left.to c.loop-left.notes) (g.K.Keeps.desk c.serve.new.self c.serve.new.to c.serve.new.notes) (g.K.Keeps.keeper c.loop-left.notes) (g.K.Keeps.keeper c.cut.new.notes) (g.K.Keeps.keeper c.serve.new.notes) (g.K.Keeps.core c.cut.new.notes) c.in-Ok-Some.taken None c.cut.ensures.keeper (c.cut.ensures.desk c.loop-left.keeper c.loop-left.to) c.in-Ok.ensures.takes) c.serve.ensures.splitter)

pub returns-in-Ok-None : goal.returns-in-Ok-None
returns-in-Ok-None g c =
    λ run is_run. for_run g.K.Keeps.unasked g.K.Keeps.talk_of g.K.Keeps.stand_at g.K.Keeps.says g.K.Keeps.cued g.K.Keeps.carries c.requires.stops _ _ run (g.K.Keeps.keeper c.args.notes.now) (g.K.Keeps.keeper c.cut.new.notes) (g.K.Keeps.core c.args.notes.now).splitter (g.K.Keeps.core c.cut.new.notes).splitter c.args.piece.now None is_run
    (amid_ended g.K.Keeps.unasked g.K.Keeps.talk_of g.K.Keeps.stand_at g.K.Keeps.says g.K.Keeps.cued g.K.Keeps.carries c.requires.stops (g.K.Keeps.desk c.args.keeper.now c.args.to.now c.args.notes.now) (g.K.Keeps.desk c.loop-left.keeper c.loop-left.to c.cut.new.notes) (g.K.Keeps.desk c.loop-left.keeper c.loop-left.to c.loop-left.notes) (g.K.Keeps.keeper c.args.notes.now) (g.K.Keeps.keeper c.loop-left.notes) (g.K.Keeps.keeper c.cut.new.notes) (g.K.Keeps.core c.args.notes.now).splitter (g.K.Keeps.core c.loop-left.notes) (g.K.Keeps.core c.cut.new.notes) c.args.piece.now c.loop-left.left.now c.loop-left.invariant (g.met.K.Keeps.talk_is c.loop-left.notes) (g.met.K.Keeps.stands_there (g.K.Keeps.keeper c.loop-left.notes)) c.cut.ensures.keeper (c.cut.ensures.desk c.loop-left.keeper c.loop-left.to)
    (subst (λ (o : Option Taken). Cuts (g.K.Keeps.core c.loop-left.notes) c.loop-left.left.now o (g.K.Keeps.core c.cut.new.notes)) c.in-Ok-None.field-0-is c.in-Ok-None.ensures.cuts) (g.K.Keeps.core c.cut.new.notes).partial)

pub returns-in-Err : goal.returns-in-Err
returns-in-Err g c =
    λ run is_run. for_run g.K.Keeps.unasked g.K.Keeps.talk_of g.K.Keeps.stand_at g.K.Keeps.says g.K.Keeps.cued g.K.Keeps.carries c.requires.stops _ _ run (g.K.Keeps.keeper c.args.notes.now) (g.K.Keeps.keeper c.cut.new.notes) (g.K.Keeps.core c.args.notes.now).splitter (g.K.Keeps.core c.cut.new.notes).splitter c.args.piece.now (Some c.in-Err.fault) is_run
    (subst (λ (d : g.K.Keeps.Desk). PieceIn g.K.Keeps.unasked g.K.Keeps.talk_of g.K.Keeps.stand_at g.K.Keeps.says g.K.Keeps.cued g.K.Keeps.carries (g.K.Keeps.desk c.args.keeper.now c.args.to.now c.args.notes.now) d (own_run g.K.Keeps.unasked g.K.Keeps.talk_of g.K.Keeps.stand_at g.K.Keeps.says g.K.Keeps.cued g.K.Keeps.carries (g.K.Keeps.keeper c.args.notes.now) (g.K.Keeps.core c.args.notes.now).splitter) c.args.piece.now (g.K.Keeps.keeper c.cut.new.notes) (g.K.Keeps.core c.cut.new.notes).splitter (Some c.in-Err.fault)) (sym (c.cut.ensures.desk c.loop-left.keeper c.loop-left.to))
    (amid_never g.K.Keeps.unasked g.K.Keeps.talk_of g.K.Keeps.stand_at g.K.Keeps.says g.K.Keeps.cued g.K.Keeps.carries c.requires.composes (g.K.Keeps.desk c.args.keeper.now c.args.to.now c.args.notes.now) (g.K.Keeps.desk c.loop-left.keeper c.loop-left.to c.loop-left.notes) (g.K.Keeps.keeper c.args.notes.now) (g.K.Keeps.keeper c.loop-left.notes) (g.K.Keeps.keeper c.cut.new.notes) (g.K.Keeps.core c.args.notes.now).splitter (g.K.Keeps.core c.loop-left.notes).splitter (g.K.Keeps.core c.cut.new.notes).splitter c.args.piece.now c.loop-left.left.now c.in-Err.fault c.loop-left.invariant c.in-Err.ensures.never))

pub returns-in-Err-serve : goal.returns-in-Err-serve
returns-in-Err-serve g c =
    λ run is_run. for_run g.K.Keeps.unasked g.K.Keeps.talk_of g.K.Keeps.stand_at g.K.Keeps.says g.K.Keeps.cued g.K.Keeps.carries c.requires.stops _ _ run (g.K.Keeps.keeper c.args.notes.now) (g.K.Keeps.keeper c.serve.new.notes) (g.K.Keeps.core c.args.notes.now).splitter (g.K.Keeps.core c.serve.new.notes).splitter c.args.piece.now (Some c.in-Err-serve.fault) is_run
    (amid_failed g.K.Keeps.unasked g.K.Keeps.talk_of g.K.Keeps.stand_at g.K.Keeps.says g.K.Keeps.cued g.K.Keeps.carries c.requires.composes (g.K.Keeps.desk c.args.keeper.now c.args.to.now c.args.notes.now) (g.K.Keeps.desk c.loop-left.keeper c.loop-left.to c.loop-left.notes) (g.K.Keeps.desk c.serve.new.self c.serve.new.to c.serve.new.notes) (g.K.Keeps.keeper c.args.notes.now) (g.K.Keeps.keeper c.loop-left.notes) (g.K.Keeps.keeper c.serve.new.notes) (g.K.Keeps.core c.args.notes.now).splitter (g.K.Keeps.core c.loop-left.notes) (g.K.Keeps.core c.cut.new.notes) (g.K.Keeps.core c.serve.new.notes).splitter c.args.piece.now c.loop-left.left.now c.in-Ok-Some.taken c.in-Err-serve.fault c.loop-left.invariant (g.met.K.Keeps.talk_is c.loop-left.notes)
    (subst (λ (o : Option Taken). Cuts (g.K.Keeps.core c.loop-left.notes) c.loop-left.left.now o (g.K.Keeps.core c.cut.new.notes)) c.in-Ok-Some.field-0-is c.in-Ok-Some.ensures.cuts)
    (served g.K.Keeps.unasked g.K.Keeps.talk_of g.K.Keeps.stand_at g.K.Keeps.says g.K.Keeps.cued g.K.Keeps.carries (g.K.Keeps.desk c.loop-left.keeper c.loop-left.to c.cut.new.notes) (g.K.Keeps.desk c.loop-left.keeper c.loop-left.to c.loop-left.notes) (g.K.Keeps.desk c.serve.new.self c.serve.new.to c.serve.new.notes) (g.K.Keeps.keeper c.loop-left.notes) (g.K.Keeps.keeper c.cut.new.notes) (g.K.Keeps.keeper c.serve.new.notes) (g.K.Keeps.core c.cut.new.notes) c.in-Ok-Some.taken (Some c.in-Err-serve.fault) c.cut.ensures.keeper (c.cut.ensures.desk c.loop-left.keeper c.loop-left.to) c.in-Err-serve.ensures.takes))

pub returns : goal.returns
returns g c =
    let none : length c.loop-left.left.now ≡ 0 = search rules in
    λ run is_run. for_run g.K.Keeps.unasked g.K.Keeps.talk_of g.K.Keeps.stand_at g.K.Keeps.says g.K.Keeps.cued g.K.Keeps.carries c.requires.stops _ _ run (g.K.Keeps.keeper c.args.notes.now) (g.K.Keeps.keeper c.loop-left.notes) (g.K.Keeps.core c.args.notes.now).splitter (g.K.Keeps.core c.loop-left.notes).splitter c.args.piece.now None is_run
    (amid_done g.K.Keeps.unasked g.K.Keeps.talk_of g.K.Keeps.stand_at g.K.Keeps.says g.K.Keeps.cued g.K.Keeps.carries (g.K.Keeps.desk c.args.keeper.now c.args.to.now c.args.notes.now) (g.K.Keeps.desk c.loop-left.keeper c.loop-left.to c.loop-left.notes) (g.K.Keeps.keeper c.args.notes.now) (g.K.Keeps.keeper c.loop-left.notes) (g.K.Keeps.core c.args.notes.now).splitter (g.K.Keeps.core c.loop-left.notes).splitter c.args.piece.now c.loop-left.left.now c.loop-left.invariant (none_left c.loop-left.left.now none) (g.K.Keeps.core c.loop-left.notes).partial (g.K.Keeps.core c.loop-left.notes).within)
