use Rattle.std.proofs.Common.{◌≡◌, length, take}
use Rattle.std.specs.Prelude.{flat_map, min}
use Rattle.ice_values.specs.Properties.{array8}
use Rattle.ice_values.specs.declared.numbers.Endian.TheVariants.{Lsb}
use Rattle.checkpoint_changes.proofs.lengths.texts_length.Given as goal

abbrev pub invariant-loop-text : goal.invariant-loop-text
invariant-loop-text l = l.total ≡ min (length (flat_map (array8 Lsb) (take l.text-index l.texts))) 18446744073709551615
