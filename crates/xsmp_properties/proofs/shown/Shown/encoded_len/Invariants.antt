use Rattle.std.proofs.Common.{◌≡◌, ◌+◌, ◌≤◌, length}
use Rattle.xsmp_properties.specs.Named.{left_of}
use Rattle.xsmp_properties.specs.Tables.{encoded_len}
use Rattle.xsmp_properties.proofs.shown.Shown.encoded_len.Given as goal

abbrev pub decreases-loop-shared : goal.decreases-loop-shared
decreases-loop-shared l = length (left_of l.left)

abbrev pub invariant-loop-shared : goal.invariant-loop-shared
invariant-loop-shared l = (l.total + encoded_len (left_of l.left) ≡ encoded_len (left_of l.self)) × (l.total ≤ 16384)
