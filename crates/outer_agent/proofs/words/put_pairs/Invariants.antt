use Rattle.std.proofs.Common.{◌≡◌, ◌++◌, length}
use Rattle.outer_agent.specs.Words.{without_id}
use Rattle.outer_agent.proofs.words.put_pairs.Given as goal

-- What was added and what is to be added of the rest is what is to be added.
abbrev pub invariant-loop-name : goal.invariant-loop-name
invariant-loop-name l = l.words ++ without_id l.left ≡ l.fn.words ++ without_id l.pairs

abbrev pub decreases-loop-name : goal.decreases-loop-name
decreases-loop-name l = length l.left
