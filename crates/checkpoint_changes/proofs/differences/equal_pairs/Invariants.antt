use Rattle.std.proofs.Common.{◌≡◌, drop}
use Rattle.std.specs.Cmp.Lexicographic.{pointwise}
use Rattle.checkpoint_changes.specs.Plain.{equal_pair}
use Rattle.checkpoint_changes.proofs.differences.equal_pairs.Given as goal

abbrev pub invariant-loop-name : goal.invariant-loop-name
invariant-loop-name l = pointwise equal_pair (drop l.name-index l.first) l.left ≡ pointwise equal_pair l.first l.second
