use Rattle.ice_values.proofs.FieldLaws.{text16_exact}
use Rattle.ice_values.proofs.text.read_text16.Goals as goal

pub read_front-requires : goal.read_front-requires
read_front-requires c = text16_exact c.args.endian
