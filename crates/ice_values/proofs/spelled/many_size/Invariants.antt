use Rattle.std.proofs.Common.{◌≡◌, ◌≤◌, length, take}
use Rattle.std.specs.List.{AllByRecursion}
use Rattle.std.specs.Prelude.{flat_map}
use Rattle.ice_values.specs.declared.numbers.Endian.{Endian}
use Rattle.ice_values.proofs.spelled.many_size.Given as goal

abbrev pub invariant-loop-value : goal.invariant-loop-value
invariant-loop-value g l = ((e : Endian) → l.total ≡ length (flat_map (g.T.Spelled.cells e) (take l.value-index l.items)))
    × (l.value-index ≤ l.total) × (l.total ≤ 65536) × AllByRecursion g.T.Spelled.is_spelled (take l.value-index l.items)
