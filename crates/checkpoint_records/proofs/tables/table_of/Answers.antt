use Rattle.std.proofs.Common.{◌≡◌, ◌∙◌, ap, subst, refl, List, Err}
use Rattle.xsmp_properties.specs.declared.refusals.SetRefusal.{SetRefusal}
use Rattle.ice_values.specs.declared.property.Property.{Property}
use Rattle.xsmp_properties.specs.Tables.{set_all, IsTableFull, AreNamesDistinct}
use Rattle.checkpoint_records.proofs.TableOfLaws.{set_all-new}
use Rattle.checkpoint_records.proofs.tables.table_of.Goals as goal

pub returns-in-Ok-clause-some : goal.returns-in-Ok-clause-some
returns-in-Ok-clause-some c =
    let properties = c.args.properties.now in
    let d : AreNamesDistinct properties = subst AreNamesDistinct c.as_slice-items.ensures (c.if-not-are_names_distinct.ensures.0 refl) in
    let same : set_all c.in_ok-table.table properties ≡ properties = ap (λ (l : List Property). set_all l properties) c.in_ok-table.ensures ∙ set_all-new properties d in
    (c.in-Ok.ensures.ok ∙ same, record { limits = subst (λ (l : List Property). ¬ (IsTableFull l)) same c.in-Ok.ensures.fits; names = d })

pub returns-in-Err-TableFull-clause-none : goal.returns-in-Err-TableFull-clause-none
returns-in-Err-TableFull-clause-none c = λ table.
    let properties = c.args.properties.now in
    let same : set_all c.in_ok-table.table properties ≡ properties = ap (λ (l : List Property). set_all l properties) c.in_ok-table.ensures ∙ set_all-new properties table.names in
    table.limits (subst IsTableFull same (c.set.ensures.full (c.in-Err-TableFull.is ∙ ap (λ (e : SetRefusal). Err e) c.in-Err-TableFull.field-0-is)))
