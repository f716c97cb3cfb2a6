use Rattle.std.proofs.Common.{◌≡◌, length}
use Rattle.ice_values.specs.Walks.{walk_left}
use Rattle.xsmp_properties.specs.Tables.{set_all}
use Rattle.xsmp_properties.proofs.named.NamedProperties.put_walk.Given as goal

abbrev pub decreases-loop-view : goal.decreases-loop-view
decreases-loop-view l = length (walk_left l.left)

abbrev pub invariant-loop-view : goal.invariant-loop-view
invariant-loop-view l = (set_all l.self (walk_left l.left) ≡ set_all l.initial.self (walk_left l.fn.walk)) × (l.left.endian ≡ l.endian)
