use Rattle.ice_values.specs.Fields.{version, IsVersion}
use Rattle.ice_values.specs.Reading.{version_at}
use Rattle.ice_values.proofs.CellLaws.{slice_bytes}
use Rattle.ice_values.proofs.FieldLaws.{version_exact}
use Rattle.ice_values.proofs.FrontLaws.{no_longer, used}
use Rattle.ice_values.proofs.version.version_front.Goals as goal

pub overflow_sub-result : goal.overflow_sub-result
overflow_sub-result c =
    no_longer (version c.args.endian) IsVersion (version_at c.args.endian) (version_exact c.args.endian) c.args.bytes.now c.in_ok-version.version c.in_ok-version.rest.now (slice_bytes c.args.bytes.now c.type_inv.bytes) c.in_ok-version.ensures.exact

pub returns-clause-exact : goal.returns-clause-exact
returns-clause-exact c =
    used (version c.args.endian) IsVersion (version_at c.args.endian) (version_exact c.args.endian) c.args.bytes.now c.in_ok-version.version c.in_ok-version.rest.now (slice_bytes c.args.bytes.now c.type_inv.bytes) c.in_ok-version.ensures.exact
