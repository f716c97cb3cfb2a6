use Rattle.std.proofs.Common.{rules, ◌≡◌, Bool, true, nat_lt, refl, subst}
use Rattle.client_quirks.specs.Sides.{GoesBy, is_between}
use Rattle.client_quirks.specs.Answering.{AnswersNothingLate}
use Rattle.client_quirks.proofs.Answered.{passes_whole}
use Rattle.client_quirks.proofs.answerer.Answerer.lets_pass.Goals as goal

pub returns-then-is_between : goal.returns-then-is_between
returns-then-is_between c = λ lets.
    let k = c.args.self.now in
    let follows : k.follows ≡ true = search rules in
    let between : is_between k.came.cutter ≡ true = search rules in
    passes_whole k c.args.piece.now (nat_lt 0 k.late.pings) refl follows between
    (subst (λ (b : Bool). GoesBy (AnswersNothingLate b (nat_lt 0 k.late.pings) k.came.speech) k.came.cutter c.args.piece.now) c.is_calm.ensures (c.passes.ensures lets))
