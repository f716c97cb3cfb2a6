use Rattle.std.proofs.Common.{rules, ◌≡◌, Some}
use Rattle.client_quirks.proofs.Stands.{alone_some}
use Rattle.client_quirks.proofs.side.Side.alone.Goals as goal

pub returns-in-Some-clause-frames : goal.returns-in-Some-clause-frames
returns-in-Some-clause-frames c =
    let some : c.args.self.now.cutter ≡ Some c.in-Some.cutter = search rules in
    alone_some c.args.self.now.cutter c.in-Some.cutter c.args.piece.now c.alone.result some c.alone.ensures.comes
