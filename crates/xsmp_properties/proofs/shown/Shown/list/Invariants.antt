use Rattle.std.proofs.Common.{◌≡◌, ◌++◌, length}
use Rattle.xsmp_properties.specs.Named.{left_of}
use Rattle.xsmp_properties.proofs.shown.Shown.list.Given as goal

abbrev pub decreases-loop-shared : goal.decreases-loop-shared
decreases-loop-shared l = length (left_of l.left)

abbrev pub invariant-loop-shared : goal.invariant-loop-shared
invariant-loop-shared l = l.list ++ left_of l.left ≡ left_of l.self
