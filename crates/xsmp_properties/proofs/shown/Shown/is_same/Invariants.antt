use Rattle.std.proofs.Common.{◌≡◌, length}
use Rattle.std.specs.Cmp.Lexicographic.{pointwise}
use Rattle.xsmp_properties.specs.Named.{left_of}
use Rattle.xsmp_properties.specs.Tables.{equal_property}
use Rattle.xsmp_properties.proofs.shown.Shown.is_same.Given as goal

abbrev pub decreases-loop-shared : goal.decreases-loop-shared
decreases-loop-shared l = length (left_of l.left)

abbrev pub invariant-loop-shared : goal.invariant-loop-shared
invariant-loop-shared l = pointwise equal_property (left_of l.left) (left_of l.others) ≡ pointwise equal_property (left_of l.self) (left_of l.other)
