use Rattle.std.proofs.Common.{rules, ◌≡◌, Some}
use Rattle.frame_speech.specs.Passing.{Passes}
use Rattle.client_quirks.proofs.Unheeded.{goes_by_some, goes_by_none}
use Rattle.client_quirks.proofs.side.Side.passes.Goals as goal

pub returns-in-Some : goal.returns-in-Some
returns-in-Some g c = λ passed.
    let ignores = g.H.Heeds.ignores c.args.heeds.now in
    let some : c.args.self.now.cutter ≡ Some c.in-Some.cutter = search rules in
    let passes : Passes ignores c.in-Some.cutter c.args.piece.now = search rules in
    goes_by_some ignores c.args.self.now.cutter c.in-Some.cutter c.args.piece.now some passes

pub returns-in-None : goal.returns-in-None
returns-in-None g c = λ passed. goes_by_none (g.H.Heeds.ignores c.args.heeds.now) c.args.self.now.cutter c.args.piece.now (search rules)
