use Rattle.std.proofs.Common.{◌≡◌, ℕ, ◌<◌, List, length, map, ap, ap₂, sym, ◌∷◌, ◌∙◌, arith}
use Rattle.xsmp_properties.specs.Named.{left_of}
use Rattle.xsmp_properties.specs.Sizes.{set_sizes, sized, sizes_of}
use Rattle.xsmp_properties.proofs.SizeLaws.{mapped-length, not_set, sized-table}
use Rattle.xsmp_properties.proofs.shown.Shown.sizes.Goals as goal

pub returns-then-not-set-clause-none : goal.returns-then-not-set-clause-none
returns-then-not-set-clause-none c =
    let items = left_of c.args.self in
    let p = c.as_ref-property.result.now in
    let size : ◌≡◌ {A = List ℕ × ℕ} (c.as_slice.result.now, c.property_size.result) (sized p) = ap₂ (λ (name : List ℕ) (n : ℕ). (name, n)) c.as_slice.ensures c.property_size.ensures in
    let whole = c.loop-shared.invariant ∙ sized-table items c.requires in
    let next = c.in-Some.ensures.some ∙ ap (λ q. q ∷ left_of c.next.new.self) (sym c.as_ref-property.ensures) in
    let many : 128 < length (map sized items) =
    not_set (sizes_of c.loop-shared.sizes) (c.as_slice.result.now, c.property_size.result) p (left_of c.loop-shared.left) (left_of c.next.new.self) (map sized items) size next whole (c.set.ensures.full c.if-not-set.true) in
    omega (arith, many, mapped-length sized items)

pub returns-clause-some : goal.returns-clause-some
returns-clause-some c =
    let items = left_of c.args.self in
    ap (λ l. set_sizes (sizes_of c.loop-shared.sizes) (map sized l)) (sym c.in_default.ensures.none) ∙ c.loop-shared.invariant ∙ sized-table items c.requires
