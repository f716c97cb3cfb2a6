use Rattle.ice_values.proofs.CellLaws.{slice_bytes}
use Rattle.ice_values.proofs.FrontLaws.{no_longer, used}
use Rattle.ice_values.proofs.spelled.front_of.Goals as goal

pub overflow_sub-result : goal.overflow_sub-result
overflow_sub-result g c =
    no_longer (g.T.Spelled.cells c.args.endian) g.T.Spelled.is_spelled (g.T.Spelled.front c.args.endian) c.requires c.args.bytes.now c.in_ok-value.value c.in_ok-value.rest.now (slice_bytes c.args.bytes.now c.type_inv.bytes) c.in_ok-value.ensures

pub returns-clause-exact : goal.returns-clause-exact
returns-clause-exact g c =
    used (g.T.Spelled.cells c.args.endian) g.T.Spelled.is_spelled (g.T.Spelled.front c.args.endian) c.requires c.args.bytes.now c.in_ok-value.value c.in_ok-value.rest.now (slice_bytes c.args.bytes.now c.type_inv.bytes) c.in_ok-value.ensures
