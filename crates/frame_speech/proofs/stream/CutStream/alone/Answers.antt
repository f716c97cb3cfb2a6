use Rattle.std.proofs.Common.{rules, ◌≡◌, Some}
use Rattle.frame_speech.proofs.Alone.{alone_by}
use Rattle.frame_speech.proofs.stream.CutStream.alone.Goals as goal

pub returns-in-Some : goal.returns-in-Some
returns-in-Some c =
    let some : c.args.self.now.rest ≡ Some c.in-Some.cutter = search rules in
    alone_by c.alone.result c.args.bytes.now c.args.self.now c.in-Some.cutter some c.alone.ensures.comes
