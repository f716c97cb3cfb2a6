use Rattle.std.proofs.Common.{◌∙◌, map, ap, sym, subst}
use Rattle.std.specs.List.{AllByRecursion}
use Rattle.std.specs.Map.{values_of}
use Rattle.std.specs.Rc.{rc_value}
use Rattle.ice_values.specs.declared.property.Property.{Property}
use Rattle.xsmp_properties.specs.Tables.{set_one}
use Rattle.xsmp_properties.specs.Named.{HasOwnName}
use Rattle.xsmp_properties.proofs.MapLaws.{values-insert, own-insert}
use Rattle.xsmp_properties.proofs.named.NamedProperties.put_shared.Goals as goal

pub invariant_of-self-2 : goal.invariant_of-self-2
invariant_of-self-2 c =
    let is = c.in_ok-name.ensures.items ∙ c.as_slice.ensures ∙ ap (λ (p : Property). p.name) c.as_ref.ensures in
    (subst (AllByRecursion (HasOwnName rc_value)) (sym c.in_ok-insert.ensures.entries) (own-insert rc_value c.self.inside.held.entries c.in_ok-name.name c.args.shared c.self.invariant.0 is), c.in_ok-insert.ensures.unique)

pub returns : goal.returns
returns c =
    let is = c.in_ok-name.ensures.items ∙ c.as_slice.ensures ∙ ap (λ (p : Property). p.name) c.as_ref.ensures in
    ap (λ es. map rc_value (values_of es)) c.in_ok-insert.ensures.entries ∙ values-insert rc_value c.self.inside.held.entries c.in_ok-name.name c.args.shared c.self.invariant.0 is ∙ ap (λ l. set_one l (rc_value c.args.shared)) c.self.view_is
