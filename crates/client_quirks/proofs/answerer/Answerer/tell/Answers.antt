use Rattle.std.proofs.Common.{rules, ◌≡◌, true}
use Rattle.client_quirks.specs.Sides.{is_between, new_frames}
use Rattle.client_quirks.proofs.Answered.{out_whole}
use Rattle.client_quirks.proofs.Followed.{with_answer}
use Rattle.client_quirks.proofs.answerer.Answerer.tell.Goals as goal

pub returns-then-is_between : goal.returns-then-is_between
returns-then-is_between c =
    let old = c.args.self.now in
    let side = c.take.new.self in
    let follows : old.follows ≡ true = search rules in
    let was : is_between old.sent.cutter ≡ true = search rules in
    let between : is_between side.cutter ≡ true = search rules in
    let cut : c.as_slice.result.now ≡ new_frames old.sent.cutter c.args.bytes.now = search rules in
    with_answer c.tell_whole.result _ _ c.tell_whole.ensures (λ answering tells.
    out_whole old c.tell_whole.new.self side c.args.bytes.now c.as_slice.result.now answering.pieces answering.going follows was between c.in_ok-frames.ensures.speech c.in_ok-frames.ensures.rest cut tells)
