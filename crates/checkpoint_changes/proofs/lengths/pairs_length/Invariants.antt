use Rattle.std.proofs.Common.{◌≡◌, length, take}
use Rattle.std.specs.Prelude.{flat_map, min}
use Rattle.ice_values.specs.Properties.{array8}
use Rattle.ice_values.specs.declared.numbers.Endian.TheVariants.{Lsb}
use Rattle.checkpoint_records.specs.Rules.{in_turn}
use Rattle.checkpoint_changes.proofs.lengths.pairs_length.Given as goal

abbrev pub invariant-loop-name : goal.invariant-loop-name
invariant-loop-name l = l.total ≡ min (length (flat_map (array8 Lsb) (in_turn (take l.name-index l.pairs)))) 18446744073709551615
