use Rattle.std.proofs.Common.{◌≡◌, ◌∙◌, ap, subst, List, []}
use Rattle.std.specs.Prelude.{Err}
use Rattle.ice_values.specs.declared.property.Property.{Property}
use Rattle.xsmp_properties.specs.Tables.{set_all, IsTableFull}
use Rattle.xsmp_properties.specs.declared.refusals.SetRefusal.{SetRefusal}
use Rattle.client_quirks.specs.Stood.{restart_among}
use Rattle.client_quirks.proofs.Followed.{with_answer}
use Rattle.client_quirks.proofs.Stands.{with_room, without_room}
use Rattle.client_quirks.proofs.restarting.restart_in.Goals as goal

pub returns-in-Ok : goal.returns-in-Ok
returns-in-Ok c =
    let properties = c.args.properties.now in
    let room : ¬ (IsTableFull (set_all [] properties)) = subst (λ (l : List Property). ¬ (IsTableFull (set_all l properties))) c.in_ok-table.ensures c.in-Ok.ensures.fits in
    let same : c.set.new.self ≡ set_all [] properties = c.in-Ok.ensures.ok ∙ ap (λ (l : List Property). set_all l properties) c.in_ok-table.ensures in
    with_answer c.restart_of.result _ _ c.restart_of.ensures (λ command is. is ∙ ap restart_among same ∙ with_room properties room)

pub returns-in-Err-TableFull : goal.returns-in-Err-TableFull
returns-in-Err-TableFull c =
    let properties = c.args.properties.now in
    without_room properties (subst (λ (l : List Property). IsTableFull (set_all l properties)) c.in_ok-table.ensures (c.set.ensures.full (c.in-Err-TableFull.is ∙ ap (λ (e : SetRefusal). Err e) c.in-Err-TableFull.field-0-is)))
