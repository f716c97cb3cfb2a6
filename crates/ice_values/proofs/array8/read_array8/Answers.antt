use Rattle.ice_values.proofs.PropertyLaws.{array8_exact}
use Rattle.ice_values.proofs.array8.read_array8.Goals as goal

pub read_front-requires : goal.read_front-requires
read_front-requires c = array8_exact c.args.endian
