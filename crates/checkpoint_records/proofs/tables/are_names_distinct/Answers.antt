use Rattle.std.proofs.Common.{◌≡◌, ◌-◌, ◌<◌, ◌∷◌, [], refl, List, length, take, drop, sym, subst, arith}
use Rattle.std.specs.Str.{bytes_eq}
use Rattle.ice_values.specs.declared.property.Property.{Property}
use Rattle.xsmp_properties.specs.Tables.{AreNamesDistinct}
use Rattle.checkpoint_records.proofs.DistinctLaws.{first_and_rest, distinct_nil}
use Rattle.checkpoint_records.proofs.TableOfLaws.{apart_more, apart_less, not_apart}
use Rattle.checkpoint_records.proofs.tables.are_names_distinct.Goals as goal

none_at_all : (left : List Property) → length left < 1 → AreNamesDistinct left
none_at_all [] lt = distinct_nil bytes_eq
none_at_all (p ∷ left) lt = absurd (omega arith)

pub returns-then-has_name : goal.returns-then-has_name
returns-then-has_name c =
    let left = c.loop-left.left.now in
    let p = c.property-item.result in
    let e : left ≡ p ∷ take (length left - 1) (drop 1 left) = first_and_rest left p c.in-len1-up.len_at_least c.property-item.is in (
      λ t. absurd cc,
      λ d. absurd (not_apart c.as_slice.result.now p (take (length left - 1) (drop 1 left)) c.as_slice.ensures (sym c.if-has_name.ensures) (subst AreNamesDistinct e (c.loop-left.invariant.1 d))),
    )

pub loop-left-preserved : goal.loop-left-preserved
loop-left-preserved c =
    let left = c.loop-left.left.now in
    let p = c.property-item.result in
    let others : List Property = take (length left - 1) (drop 1 left) in
    let e : left ≡ p ∷ others = first_and_rest left p c.in-len1-up.len_at_least c.property-item.is in (
      λ d. c.loop-left.invariant.0 (subst AreNamesDistinct (sym e) (apart_more c.as_slice.result.now p others c.as_slice.ensures (sym c.if-has_name.ensures) d)),
      λ d. apart_less p others (subst AreNamesDistinct e (c.loop-left.invariant.1 d)),
    )

pub returns : goal.returns
returns c = (λ t. c.loop-left.invariant.0 (none_at_all c.loop-left.left.now c.in_default.len_below), λ d. refl)
