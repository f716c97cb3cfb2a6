use Rattle.std.proofs.Common.{rules, ◌≡◌, Some, None}
use Rattle.frame_speech.proofs.Passed.{goes_by, goes_nowhere}
use Rattle.frame_speech.proofs.stream.CutStream.passes.Goals as goal

pub returns-in-Some : goal.returns-in-Some
returns-in-Some g c = λ passed.
    let some : c.args.self.now.rest ≡ Some c.in-Some.cutter = search rules in
    goes_by (g.H.Heeds.ignores c.args.heeds.now) c.args.bytes.now c.args.self.now c.in-Some.cutter some (c.passes.ensures passed)

pub returns-in-None : goal.returns-in-None
returns-in-None g c = λ passed.
    let none : c.args.self.now.rest ≡ None = search rules in
    goes_nowhere (g.H.Heeds.ignores c.args.heeds.now) c.args.bytes.now c.args.self.now none
