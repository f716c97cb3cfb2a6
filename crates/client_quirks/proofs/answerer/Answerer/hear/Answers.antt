use Rattle.std.proofs.Common.{rules, ◌≡◌, ◌∙◌, ap, true, subst, List, ℕ}
use Rattle.client_quirks.specs.Sides.{CutsOn, is_between, new_frames}
use Rattle.client_quirks.proofs.Answered.{on_whole}
use Rattle.client_quirks.proofs.Followed.{with_answer}
use Rattle.client_quirks.proofs.answerer.Answerer.hear.Goals as goal

pub returns-then-is_between : goal.returns-then-is_between
returns-then-is_between c =
    let old = c.args.self.now in
    let side = c.take.new.self in
    let follows : old.follows ≡ true = search rules in
    let was : is_between old.came.cutter ≡ true = search rules in
    let between : is_between side.cutter ≡ true = search rules in
    let piece : c.as_slice.result.now ≡ c.args.piece = search rules in
    let cut : c.as_slice-then-is_between.result.now ≡ new_frames old.came.cutter c.as_slice.result.now = search rules in
    with_answer c.hear_whole.result _ _ c.hear_whole.ensures (λ answering hears.
    on_whole old c.hear_whole.new.self side c.args.piece c.as_slice-then-is_between.result.now answering.pieces answering.going follows was between c.in_ok-frames.ensures.speech
    (subst (λ (p : List ℕ). CutsOn old.came.cutter p side.cutter) piece c.in_ok-frames.ensures.rest)
    (cut ∙ ap (new_frames old.came.cutter) piece) hears)
