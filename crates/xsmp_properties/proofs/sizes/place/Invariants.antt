use Rattle.std.proofs.Common.{◌≡◌, ◌+◌, drop, map}
use Rattle.xsmp_properties.specs.Sizes.{place_of, shown}
use Rattle.xsmp_properties.proofs.sizes.place.Given as goal

abbrev pub invariant-loop-index : goal.invariant-loop-index
invariant-loop-index l = place_of l.name (map shown (drop l.index l.held)) + l.index ≡ place_of l.name (map shown l.held)
