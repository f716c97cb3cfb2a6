use Rattle.std.proofs.Common.{◌≡◌, ◌≤◌, length}
use Rattle.window_follower.specs.Asked.{settled, settled_in}
use Rattle.window_follower.proofs.asked.AskedQueue.settle.Given as goal

-- What is to be found among all that were open is to be found among those that are left.
abbrev pub invariant-loop-question : goal.invariant-loop-question
invariant-loop-question l =
    (settled l.fn.sequence l.fn.self ≡ settled_in l.fn.sequence l.self-inside.waiting.items l.self-inside.first l.self-inside.unanswered.items)
    × (length l.self-inside.unanswered.items ≤ 65535)

abbrev pub decreases-loop-question : goal.decreases-loop-question
decreases-loop-question l = length l.self-inside.unanswered.items
