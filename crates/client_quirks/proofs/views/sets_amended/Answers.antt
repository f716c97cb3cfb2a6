use Rattle.std.proofs.Common.{◌∙◌, sym, subst}
use Rattle.std.specs.List.{list_any}
use Rattle.ice_values.specs.Walks.{walk_left, Views}
use Rattle.ice_values.specs.declared.numbers.Endian.{Endian}
use Rattle.client_quirks.specs.Meanings.{is_amended}
use Rattle.client_quirks.proofs.Viewed.{any_here, any_later}
use Rattle.client_quirks.proofs.views.sets_amended.Goals as goal

pub loop-view-preserved : goal.loop-view-preserved
loop-view-preserved c =
    let next = c.in-Some.ensures.steps in
    let views : Views c.endian-endian.result c.in-Some.view next.property = subst (λ (e : Endian). Views e c.in-Some.view next.property) c.loop-view.invariant.1 next.views in (
      any_later is_amended next.property (walk_left c.next.new.self) (walk_left c.loop-view.left) (list_any is_amended (walk_left c.args.walk)) next.left c.loop-view.invariant.0 (sym (c.shows_amended.ensures next.property views) ∙ c.if-shows_amended.false),
      next.endian ∙ c.loop-view.invariant.1,
    )

pub returns-then-shows_amended : goal.returns-then-shows_amended
returns-then-shows_amended c =
    let next = c.in-Some.ensures.steps in
    let views : Views c.endian-endian.result c.in-Some.view next.property = subst (λ (e : Endian). Views e c.in-Some.view next.property) c.loop-view.invariant.1 next.views in
    any_here is_amended next.property (walk_left c.next.new.self) (walk_left c.loop-view.left) (list_any is_amended (walk_left c.args.walk)) next.left c.loop-view.invariant.0 (sym (c.shows_amended.ensures next.property views) ∙ c.if-shows_amended.true)
