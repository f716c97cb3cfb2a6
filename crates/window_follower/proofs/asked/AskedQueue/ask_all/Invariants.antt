use Rattle.std.proofs.Common.{◌≡◌, take}
use Rattle.window_follower.specs.Asked.{ask_all}
use Rattle.window_follower.proofs.asked.AskedQueue.ask_all.Given as goal

abbrev pub invariant-loop-question : goal.invariant-loop-question
invariant-loop-question l = l.self ≡ ask_all (take l.question-index l.questions) l.fn.self
