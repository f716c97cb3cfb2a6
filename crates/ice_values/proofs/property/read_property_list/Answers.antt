use Rattle.ice_values.proofs.PropertyLaws.{property_list_exact}
use Rattle.ice_values.proofs.property.read_property_list.Goals as goal

pub read_front-requires : goal.read_front-requires
read_front-requires c = property_list_exact c.args.endian
