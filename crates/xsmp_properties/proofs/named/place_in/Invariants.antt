use Rattle.std.proofs.Common.{◌≡◌, map, ◌+◌, drop}
use Rattle.std.specs.Rc.{rc_value}
use Rattle.xsmp_properties.specs.Named.{place_among}
use Rattle.xsmp_properties.proofs.named.place_in.Given as goal

abbrev pub invariant-loop-index : goal.invariant-loop-index
invariant-loop-index l = place_among l.name (map rc_value (drop l.index l.held)) + l.index ≡ place_among l.name (map rc_value l.held)
