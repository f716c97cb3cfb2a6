use Rattle.std.proofs.Common.{◌≡◌, length, map}
use Rattle.ice_values.specs.Walks.{walk_left}
use Rattle.xsmp_properties.specs.Sizes.{set_sizes, sized, sizes_of}
use Rattle.xsmp_properties.proofs.sizes.TableSizes.set_walk.Given as goal

abbrev pub decreases-loop-view : goal.decreases-loop-view
decreases-loop-view l = length (walk_left l.left)

abbrev pub invariant-loop-view : goal.invariant-loop-view
invariant-loop-view l = set_sizes (sizes_of l.self) (map sized (walk_left l.left)) ≡ set_sizes (sizes_of l.initial.self) (map sized (walk_left l.fn.walk))
