use Rattle.std.proofs.Common.{◌≡◌, ◌<◌, ◌∷◌, ◌+◌, drop, length, ap, sym, ◌∙◌, arith, rules}
use Rattle.std.proofs.lemmas.List.{drop_more}
use Rattle.xsmp_properties.specs.Tables.{set_all}
use Rattle.xsmp_properties.proofs.SizeLaws.{too_many}
use Rattle.xsmp_properties.proofs.named.NamedProperties.put_all.Goals as goal

pub returns-then-len-gt-NAME_LIMIT-clause-full : goal.returns-then-len-gt-NAME_LIMIT-clause-full
returns-then-len-gt-NAME_LIMIT-clause-full c = λ full.
    let list = c.args.list.now in
    let index = c.loop-property.property-index in
    let now = c.put.new.self in
    let next : drop index list ≡ c.property-item.result ∷ drop (index + 1) list =
    drop_more list index c.property-item.result c.loop-property-test.true ∙ ap (λ property. property ∷ drop (index + 1) list) (sym c.property-item.is) in
    let many : 128 < length now = omega (arith, c.len.ensures.len, c.if-len-gt-NAME_LIMIT.true) in
    too_many c.loop-property.self now list (set_all c.args.self.now list) c.property-item.result index c.loop-property.invariant next (search rules) many
