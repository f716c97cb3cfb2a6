use Rattle.std.proofs.Common.{length}
use Rattle.adopted_words.proofs.WordLaws.{Goes}
use Rattle.adopted_words.proofs.words.read_words.Given as goal

abbrev pub invariant-loop-word : goal.invariant-loop-word
invariant-loop-word l = Goes l.text l.words l.rest

abbrev pub decreases-loop-word : goal.decreases-loop-word
decreases-loop-word l = length l.rest
