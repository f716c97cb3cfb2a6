use Rattle.std.proofs.Common.{◌≡◌, length, map, refl, inl, sym, ap, ◌∙◌, arith}
use Rattle.ice_values.specs.Walks.{walk_left}
use Rattle.xsmp_properties.specs.Sizes.{set_sizes, sized, sizes_of}
use Rattle.xsmp_properties.specs.Tables.{set_all}
use Rattle.xsmp_properties.proofs.SizeLaws.{is_full-by, mapped-length, set_all-longer, sized-all}
use Rattle.xsmp_properties.proofs.shared.SharedProperties.would_be_full.Goals as goal

pub returns-in_default : goal.returns-in_default
returns-in_default c =
    (λ yes. inl (omega (arith, c.in_default.ensures.none, ap length c.shown.ensures.shown, set_all-longer c.args.self.now (walk_left c.args.walk))), λ full. refl)

pub returns-then-not-set_walk : goal.returns-then-not-set_walk
returns-then-not-set_walk c =
    let items = c.args.self.now in
    let list = walk_left c.args.walk in
    let whole : map sized (set_all items list) ≡ set_sizes (sizes_of c.in-Some.sizes) (map sized list) = sized-all items list ∙ ap (λ l. set_sizes l (map sized list)) (sym (c.in-Some.ensures.some ∙ ap (map sized) c.shown.ensures.shown)) in
    (λ yes. inl (omega (arith, c.set_walk.ensures.full c.if-not-set_walk.true, ap length whole, mapped-length sized (set_all items list))), λ full. refl)

pub returns : goal.returns
returns c =
    let items = c.args.self.now in
    let list = walk_left c.args.walk in
    let whole = c.set_walk.ensures.room c.if-not-set_walk.false ∙ ap (λ l. set_sizes l (map sized list)) (c.in-Some.ensures.some ∙ ap (map sized) c.shown.ensures.shown) ∙ sym (sized-all items list) in
    rw c.is_over.ensures.is (is_full-by (sizes_of c.set_walk.new.self) (set_all items list) whole c.is_over.ensures.names)
