use Rattle.std.proofs.Common.{◌≡◌, ◌++◌, take}
use Rattle.window_follower.specs.Asked.{moved}
use Rattle.window_follower.proofs.asked.AskedQueue.send_waiting.Given as goal

abbrev pub invariant-loop-turn : goal.invariant-loop-turn
invariant-loop-turn l = (l.sent ≡ l.fn.sent ++ take l._turn l.fn.self.waiting) × (l.self ≡ moved l._turn l.fn.self)
