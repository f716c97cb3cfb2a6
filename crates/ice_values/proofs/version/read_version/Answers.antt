use Rattle.ice_values.specs.Fields.{version, IsVersion}
use Rattle.ice_values.specs.Reading.{version_at}
use Rattle.ice_values.proofs.CellLaws.{slice_bytes}
use Rattle.ice_values.proofs.FieldLaws.{version_exact}
use Rattle.ice_values.proofs.FrontLaws.{reads_front}
use Rattle.ice_values.proofs.version.read_version.Goals as goal

pub returns-clause-front : goal.returns-clause-front
returns-clause-front c =
    reads_front (version c.args.endian) IsVersion (version_at c.args.endian) (version_exact c.args.endian) c.args.bytes.now (slice_bytes c.args.bytes.now c.type_inv.bytes) c.version_front.result c.version_front.ensures.exact c.version_front.ensures.within
