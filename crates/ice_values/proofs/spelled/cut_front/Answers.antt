use Rattle.ice_values.proofs.CellLaws.{slice_bytes}
use Rattle.ice_values.proofs.WalkLaws.{passed_no_longer, cuts_front}
use Rattle.ice_values.proofs.spelled.cut_front.Goals as goal

pub overflow_sub-bytes : goal.overflow_sub-bytes
overflow_sub-bytes g c =
    passed_no_longer (g.T.Spelled.cells c.args.endian) g.T.Spelled.is_spelled (g.T.Spelled.front c.args.endian) c.requires c.args.bytes.now c.in_ok-rest.rest.now (slice_bytes c.args.bytes.now c.type_inv.bytes) c.in_ok-rest.ensures

pub returns : goal.returns
returns g c =
    cuts_front (g.T.Spelled.cells c.args.endian) g.T.Spelled.is_spelled (g.T.Spelled.front c.args.endian) c.requires c.args.bytes.now c.split_at.result.0.now c.in_ok-rest.rest.now (slice_bytes c.args.bytes.now c.type_inv.bytes) c.in_ok-rest.ensures c.split_at.ensures.front
