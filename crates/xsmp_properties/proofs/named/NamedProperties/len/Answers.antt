use Rattle.std.proofs.Common.{subst}
use Rattle.std.specs.Rc.{rc_value}
use Rattle.xsmp_properties.specs.Tables.{AreNamesDistinct}
use Rattle.xsmp_properties.proofs.MapLaws.{names-distinct}
use Rattle.xsmp_properties.proofs.named.NamedProperties.len.Goals as goal

pub returns-clause-names : goal.returns-clause-names
returns-clause-names c = subst AreNamesDistinct c.self.view_is (names-distinct rc_value c.self.inside.held.entries c.self.invariant)
