use Rattle.ice_values.specs.declared.numbers.Endian.TheVariants.{Lsb}
use Rattle.ice_values.proofs.PropertyLaws.{property_list_exact}
use Rattle.checkpoint_records.proofs.entries.take_properties.Goals as goal

pub take_zeroed-requires : goal.take_zeroed-requires
take_zeroed-requires c = property_list_exact Lsb
