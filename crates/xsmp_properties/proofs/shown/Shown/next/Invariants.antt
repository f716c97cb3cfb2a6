use Rattle.std.proofs.Common.{◌≡◌, length}
use Rattle.xsmp_properties.specs.Named.{left_of}
use Rattle.xsmp_properties.proofs.shown.Shown.next.Given as goal

abbrev pub decreases-loop-shared : goal.decreases-loop-shared
decreases-loop-shared l = length l.self.left.now

abbrev pub invariant-loop-shared : goal.invariant-loop-shared
invariant-loop-shared l = left_of l.self ≡ left_of l.initial.self
