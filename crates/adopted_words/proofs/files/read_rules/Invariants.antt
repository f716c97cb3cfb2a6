use Rattle.std.proofs.Common.{length}
use Rattle.adopted_words.proofs.FileLaws.{Reading}
use Rattle.adopted_words.proofs.files.read_rules.Given as goal

abbrev pub invariant-loop-left : goal.invariant-loop-left
invariant-loop-left l = Reading l.text l.left l.rules l.number

abbrev pub decreases-loop-left : goal.decreases-loop-left
decreases-loop-left l = length l.left
