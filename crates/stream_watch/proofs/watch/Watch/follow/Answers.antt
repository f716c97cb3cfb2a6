use Rattle.std.proofs.Common.{rules}
use Rattle.frame_speech.specs.Passing.{PassesBy}
use Rattle.stream_watch.specs.Watching.{IsNoTurn}
use Rattle.stream_watch.proofs.Unseen.{follows_still}
use Rattle.stream_watch.proofs.watch.Watch.follow.Goals as goal

pub returns-then-passes : goal.returns-then-passes
returns-then-passes c = λ sent follows.
    let passes : PassesBy IsNoTurn c.args.bytes.now c.args.self.now.sent = search rules in
    follows_still sent c.args.bytes.now c.args.self.now passes follows
