use Rattle.std.proofs.Common.{◌∙◌, ap, map, sym, subst, ◌∷◌, []}
use Rattle.std.specs.List.{AllByRecursion}
use Rattle.std.specs.Map.{values_of}
use Rattle.std.specs.Rc.{rc_value}
use Rattle.xsmp_properties.specs.Tables.{without_names}
use Rattle.xsmp_properties.specs.Named.{HasOwnName}
use Rattle.xsmp_properties.proofs.MapLaws.{values-remove, own-remove}
use Rattle.xsmp_properties.proofs.named.NamedProperties.remove.Goals as goal

pub invariant_of-self : goal.invariant_of-self
invariant_of-self c = (subst (AllByRecursion (HasOwnName rc_value)) (sym c.shift_remove.ensures.entries) (own-remove rc_value c.self.inside.held.entries c.args.name.now c.self.invariant.0), c.shift_remove.ensures.unique)

pub returns : goal.returns
returns c = ap (λ es. map rc_value (values_of es)) c.shift_remove.ensures.entries ∙ values-remove rc_value c.self.inside.held.entries c.args.name.now c.self.invariant ∙ ap (without_names (c.args.name.now ∷ [])) c.self.view_is
