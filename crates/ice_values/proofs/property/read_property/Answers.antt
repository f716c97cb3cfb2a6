use Rattle.ice_values.proofs.PropertyLaws.{property_exact}
use Rattle.ice_values.proofs.property.read_property.Goals as goal

pub read_front-requires : goal.read_front-requires
read_front-requires c = property_exact c.args.endian
