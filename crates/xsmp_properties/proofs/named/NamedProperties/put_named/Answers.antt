use Rattle.std.proofs.Common.{◌∙◌, map, ap, ap₂, sym, subst}
use Rattle.std.specs.List.{AllByRecursion}
use Rattle.std.specs.Map.{values_of}
use Rattle.std.specs.Rc.{rc_value}
use Rattle.xsmp_properties.specs.Tables.{set_all}
use Rattle.xsmp_properties.specs.Named.{HasOwnName}
use Rattle.xsmp_properties.proofs.MapLaws.{values-insert_all, own-insert_all}
use Rattle.xsmp_properties.proofs.named.NamedProperties.put_named.Goals as goal

pub invariant_of-self-2 : goal.invariant_of-self-2
invariant_of-self-2 c =
    (subst (AllByRecursion (HasOwnName rc_value)) (sym c.in_ok-append.ensures.entries) (own-insert_all rc_value c.self.inside.held.entries c.others.inside.held.entries c.self.invariant.0 c.others.invariant.0), c.len-len.ensures.unique)

pub returns-clause-ok : goal.returns-clause-ok
returns-clause-ok c =
    ap (λ es. map rc_value (values_of es)) c.in_ok-append.ensures.entries ∙ values-insert_all rc_value c.self.inside.held.entries c.others.inside.held.entries c.self.invariant.0 c.others.invariant.0 ∙ ap₂ set_all c.self.view_is c.others.view_is
