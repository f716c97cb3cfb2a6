use Rattle.std.proofs.Common.{◌≡◌, length, arith}
use Rattle.std.proofs.lemmas.Bool.Decides.{nat_tests}
use Rattle.ice_framing.specs.Frames.{fed, behind, cut}
use Rattle.ice_framing.proofs.Pieces.{done, cut_off, done_stands, cut_off_stands}
use Rattle.ice_framing.proofs.cutting.cut_piece.Goals as goal

pub returns-in-Err-clause-frames : goal.returns-in-Err-clause-frames
returns-in-Err-clause-frames c =
    (cut_off (behind c.args.frames.now (cut (fed c.args.splitter.now c.args.piece.now))) c.loop-rest.frames c.loop-rest.splitter c.loop-rest.rest.now c.loop-rest.invariant c.in-Err.ensures.oversize.0).0

pub returns-in-Err-clause-stands : goal.returns-in-Err-clause-stands
returns-in-Err-clause-stands c =
    cut_off_stands (behind c.args.frames.now (cut (fed c.args.splitter.now c.args.piece.now))) c.loop-rest.frames c.loop-rest.splitter c.feed.new.self c.loop-rest.rest.now c.in-Err.oversize c.loop-rest.invariant c.in-Err.ensures.oversize.0 c.in-Err.ensures.header c.in-Err.ensures.oversize.1

pub returns-clause-frames : goal.returns-clause-frames
returns-clause-frames c =
    let none : length c.loop-rest.rest.now ≡ 0 = grind (arith, nat_tests) in
    (done (behind c.args.frames.now (cut (fed c.args.splitter.now c.args.piece.now))) c.loop-rest.frames c.loop-rest.splitter c.loop-rest.rest.now c.loop-rest.invariant none).0

pub returns-clause-stands : goal.returns-clause-stands
returns-clause-stands c =
    let none : length c.loop-rest.rest.now ≡ 0 = grind (arith, nat_tests) in
    done_stands (behind c.args.frames.now (cut (fed c.args.splitter.now c.args.piece.now))) c.loop-rest.frames c.loop-rest.splitter c.loop-rest.rest.now c.loop-rest.invariant none
