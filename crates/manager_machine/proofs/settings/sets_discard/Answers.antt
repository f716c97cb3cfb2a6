use Rattle.std.proofs.Common.{◌≡◌, ◌∙◌, ◌||◌, Bool, true, false, ap, sym}
use Rattle.std.specs.Prelude.{codes}
use Rattle.std.specs.List.{list_any}
use Rattle.std.specs.Str.{bytes_eq}
use Rattle.ice_values.specs.Walks.{walk_left}
use Rattle.xsmp_properties.specs.Tables.{is_named}
use Rattle.manager_machine.proofs.settings.sets_discard.Goals as goal

pub loop-view-preserved : goal.loop-view-preserved
loop-view-preserved c =
    let next = c.in-Some.ensures.steps in
    let is : false ≡ is_named (codes "DiscardCommand") next.property = sym c.if-is_discard.false ∙ c.is_discard.ensures ∙ ap (bytes_eq (codes "DiscardCommand")) next.views.name in
    ap (λ (b : Bool). b || list_any (is_named (codes "DiscardCommand")) (walk_left c.next.new.self)) is
    ∙ sym (ap (list_any (is_named (codes "DiscardCommand"))) next.left)
    ∙ c.loop-view.invariant

pub returns-then-is_discard : goal.returns-then-is_discard
returns-then-is_discard c =
    let next = c.in-Some.ensures.steps in
    let is : true ≡ is_named (codes "DiscardCommand") next.property = sym c.if-is_discard.true ∙ c.is_discard.ensures ∙ ap (bytes_eq (codes "DiscardCommand")) next.views.name in
    ap (λ (b : Bool). b || list_any (is_named (codes "DiscardCommand")) (walk_left c.next.new.self)) is
    ∙ sym (ap (list_any (is_named (codes "DiscardCommand"))) next.left)
    ∙ c.loop-view.invariant
