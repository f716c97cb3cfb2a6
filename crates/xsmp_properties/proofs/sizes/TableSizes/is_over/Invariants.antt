use Rattle.std.proofs.Common.{◌≡◌, ◌≤◌, ◌+◌, ◌*◌, drop, map}
use Rattle.xsmp_properties.specs.Sizes.{shown, total_of}
use Rattle.xsmp_properties.proofs.sizes.TableSizes.is_over.Given as goal

abbrev pub invariant-loop-size : goal.invariant-loop-size
invariant-loop-size l = (l.total + total_of (map shown (drop l.size-index l.size-items)) ≡ total_of (map shown l.size-items)) × (l.total ≤ 65535 * l.size-index)
