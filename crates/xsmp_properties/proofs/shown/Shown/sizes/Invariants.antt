use Rattle.std.proofs.Common.{◌≡◌, map, [], length}
use Rattle.xsmp_properties.specs.Named.{left_of}
use Rattle.xsmp_properties.specs.Sizes.{set_sizes, sized, sizes_of}
use Rattle.xsmp_properties.proofs.shown.Shown.sizes.Given as goal

abbrev pub decreases-loop-shared : goal.decreases-loop-shared
decreases-loop-shared l = length (left_of l.left)

abbrev pub invariant-loop-shared : goal.invariant-loop-shared
invariant-loop-shared l = set_sizes (sizes_of l.sizes) (map sized (left_of l.left)) ≡ set_sizes [] (map sized (left_of l.self))
