use Rattle.std.proofs.Common.{subst}
use Rattle.std.specs.Rc.{rc_value}
use Rattle.xsmp_properties.specs.Tables.{AreNamesDistinct}
use Rattle.xsmp_properties.proofs.ShownLaws.{distinct-shown}
use Rattle.xsmp_properties.proofs.shared.SharedProperties.shown.Goals as goal

pub returns-clause-names : goal.returns-clause-names
returns-clause-names c = subst AreNamesDistinct c.self.view_is (distinct-shown c.self.inside.hidden 0 (rc_value c.self.inside.named) c.self.invariant.1)
