use Rattle.ice_values.proofs.PropertyLaws.{array8_list_exact}
use Rattle.ice_values.proofs.array8.read_array8_list.Goals as goal

pub read_front-requires : goal.read_front-requires
read_front-requires c = array8_list_exact c.args.endian
