use Rattle.std.proofs.Common.{None, take}
use Rattle.client_callbacks.specs.Doing.{Sends}
use Rattle.client_callbacks.proofs.saying.say_all.Given as goal

abbrev pub invariant-loop-message : goal.invariant-loop-message
invariant-loop-message g l = Sends (g.P.Told.outside l.fn.peer) (g.P.Told.outside l.peer) (take l.message-index l.said) None
