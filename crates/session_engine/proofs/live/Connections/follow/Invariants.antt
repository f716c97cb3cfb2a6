use Rattle.std.proofs.Common.{take}
use Rattle.session_engine.specs.Telling.{FollowsLive}
use Rattle.session_engine.proofs.live.Connections.follow.Given as goal

abbrev pub invariant-loop-act : goal.invariant-loop-act
invariant-loop-act l = FollowsLive (take l.act-index l.acts) l.fn.self l.self
