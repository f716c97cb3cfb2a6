use Rattle.ice_values.proofs.CellLaws.{slice_bytes}
use Rattle.ice_values.proofs.FrontLaws.{reads_front}
use Rattle.ice_values.proofs.spelled.read_front.Goals as goal

pub returns : goal.returns
returns g c =
    reads_front (g.T.Spelled.cells c.args.endian) g.T.Spelled.is_spelled (g.T.Spelled.front c.args.endian) c.requires c.args.bytes.now (slice_bytes c.args.bytes.now c.type_inv.bytes) c.front_of.result c.front_of.ensures.exact c.front_of.ensures.within
