use Rattle.std.proofs.Common.{ℕ, List, map, ap, ap₂, ◌∙◌}
use Rattle.ice_values.specs.Walks.{walk_left}
use Rattle.ice_values.proofs.WalkLaws.{view_is_as_long}
use Rattle.xsmp_properties.specs.Sizes.{limited, set_sizes, sized, sizes_of}
use Rattle.xsmp_properties.proofs.SizeLaws.{not_set}
use Rattle.xsmp_properties.proofs.sizes.TableSizes.set_walk.Goals as goal

pub returns-then-not-set-clause-full : goal.returns-then-not-set-clause-full
returns-then-not-set-clause-full c = λ none.
    let view = c.in-Some.view in
    let left = c.loop-view.left in
    let next = c.in-Some.ensures.steps in
    let len = c.view_size.ensures ∙ ap limited (view_is_as_long left.endian view next.property next.views) in
    let size = ap₂ (λ (name : List ℕ) (n : ℕ). (name, n)) next.views.name len in
    not_set (sizes_of c.loop-view.self) (view.name.now, c.view_size.result) next.property (walk_left left) (walk_left c.next.new.self) (set_sizes (sizes_of c.args.self.now) (map sized (walk_left c.args.walk))) size next.left c.loop-view.invariant (c.set.ensures.full c.if-not-set.true)
