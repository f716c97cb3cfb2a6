use Rattle.std.proofs.Common.{◌+◌, drop, Option, subst}
use Rattle.std.specs.List.{concat}
use Rattle.ice_framing.specs.Frames.{beginning, fed, behind, cut, StandsAt}
use Rattle.ice_framing.specs.declared.splitting.Oversize.{Oversize}
use Rattle.ice_framing.proofs.Shapes.{made_of}
use Rattle.ice_framing.proofs.Pieces.{next_part, no_part, next_piece, last_piece, no_piece}
use Rattle.ice_framing.proofs.cutting.cut_pieces.Goals as goal

pub returns-in-Some : goal.returns-in-Some
returns-in-Some c =
    let i = c.loop-piece.piece-index in
    let piece = c.as_slice.result.now in
    let parts = next_part c.args.pieces.now i c.piece-item.result piece c.loop-piece-test.true c.piece-item.is c.as_slice.ensures in
    let stands = subst (λ (end : Option Oversize). StandsAt (cut (fed c.loop-piece.splitter piece)).standing c.cut_piece.new.splitter end) c.in-Some.is c.in_ok-oversize.ensures.stands in
    let last = last_piece (behind c.args.frames.now (cut (fed beginning (concat c.args.pieces.now)))) c.loop-piece.frames c.cut_piece.new.frames c.loop-piece.splitter c.cut_piece.new.splitter piece (concat (drop (i + 1) c.args.pieces.now)) (concat (drop i c.args.pieces.now)) c.in-Some.oversize c.loop-piece.invariant parts c.in_ok-oversize.ensures.frames stands in
    record { frames = last.0; end = last.1; made = made_of (concat c.args.pieces.now) }

pub loop-piece-preserved : goal.loop-piece-preserved
loop-piece-preserved c =
    let i = c.loop-piece.piece-index in
    let piece = c.as_slice.result.now in
    let parts = next_part c.args.pieces.now i c.piece-item.result piece c.loop-piece-test.true c.piece-item.is c.as_slice.ensures in
    let stands = subst (λ (end : Option Oversize). StandsAt (cut (fed c.loop-piece.splitter piece)).standing c.cut_piece.new.splitter end) c.in_default.is c.in_ok-oversize.ensures.stands in
    next_piece (behind c.args.frames.now (cut (fed beginning (concat c.args.pieces.now)))) c.loop-piece.frames c.cut_piece.new.frames c.loop-piece.splitter c.cut_piece.new.splitter piece (concat (drop (i + 1) c.args.pieces.now)) (concat (drop i c.args.pieces.now)) c.loop-piece.invariant parts c.in_ok-oversize.ensures.frames stands

pub returns : goal.returns
returns c =
    let none = no_part c.args.pieces.now c.loop-piece.piece-index c.loop-piece-test.false in
    let last = no_piece (behind c.args.frames.now (cut (fed beginning (concat c.args.pieces.now)))) c.loop-piece.frames c.loop-piece.splitter (concat (drop c.loop-piece.piece-index c.args.pieces.now)) c.loop-piece.invariant none in
    record { frames = last.0; end = last.1; made = made_of (concat c.args.pieces.now) }
