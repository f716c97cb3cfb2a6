use Rattle.std.proofs.Common.{rules, ◌≡◌, Bool, true, subst}
use Rattle.client_quirks.specs.Sides.{GoesBy, is_between}
use Rattle.client_quirks.specs.Answering.{OrdersNothing}
use Rattle.client_quirks.proofs.Answered.{sends_whole}
use Rattle.client_quirks.proofs.answerer.Answerer.sends_on.Goals as goal

pub returns-then-is_between : goal.returns-then-is_between
returns-then-is_between c = λ sends.
    let k = c.args.self.now in
    let follows : k.follows ≡ true = search rules in
    let between : is_between k.sent.cutter ≡ true = search rules in
    sends_whole k c.args.bytes.now follows between
    (subst (λ (b : Bool). GoesBy (OrdersNothing b k.sent.speech) k.sent.cutter c.args.bytes.now) c.is_calm.ensures (c.passes.ensures sends))
