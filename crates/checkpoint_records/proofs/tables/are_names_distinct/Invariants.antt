use Rattle.std.proofs.Common.{length}
use Rattle.xsmp_properties.specs.Tables.{AreNamesDistinct}
use Rattle.checkpoint_records.proofs.tables.are_names_distinct.Given as goal

abbrev pub invariant-loop-left : goal.invariant-loop-left
invariant-loop-left l = (AreNamesDistinct l.left → AreNamesDistinct l.properties) × (AreNamesDistinct l.properties → AreNamesDistinct l.left)

abbrev pub decreases-loop-left : goal.decreases-loop-left
decreases-loop-left l = length l.left
