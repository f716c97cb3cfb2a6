use Rattle.std.proofs.Common.{◌≡◌, ◌++◌, length}
use Rattle.xsmp_properties.specs.Named.{left_of}
use Rattle.xsmp_properties.specs.Tables.{AreNamesDistinct}
use Rattle.xsmp_properties.proofs.shared.SharedProperties.to_named.Given as goal

abbrev pub decreases-loop-shared : goal.decreases-loop-shared
decreases-loop-shared l = length (left_of l.left)

abbrev pub invariant-loop-shared : goal.invariant-loop-shared
invariant-loop-shared l = (l.named ++ left_of l.left ≡ l.self) × AreNamesDistinct l.self
