use Rattle.ice_values.specs.declared.numbers.Endian.TheVariants.{Lsb}
use Rattle.ice_values.proofs.PropertyLaws.{array8_list_exact}
use Rattle.checkpoint_records.proofs.pending.take_list.Goals as goal

pub take_zeroed-requires : goal.take_zeroed-requires
take_zeroed-requires c = array8_list_exact Lsb
