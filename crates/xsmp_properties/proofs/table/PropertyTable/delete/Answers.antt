use Rattle.std.proofs.Common.{subst, not}
use Rattle.std.specs.List.{list_any}
use Rattle.xsmp_properties.specs.Tables.{is_named, IsTableFull}
use Rattle.xsmp_properties.proofs.TableLaws.{kept-fits}
use Rattle.xsmp_properties.proofs.table.PropertyTable.delete.Goals as goal

pub invariant_of-self : goal.invariant_of-self
invariant_of-self c = λ full. kept-fits (λ p. not (list_any (λ name. is_named name p) c.as_slice.result.now)) c.self.inside.shared c.self.invariant (subst IsTableFull c.remove_all.ensures full)
