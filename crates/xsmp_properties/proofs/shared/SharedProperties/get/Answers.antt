use Rattle.std.proofs.Common.{◌≡◌, ◌<◌, ◌≤◌, length, List, Some, get_or, ap, sym, ◌∙◌, arith}
use Rattle.std.specs.Int.{bit_at}
use Rattle.ice_values.specs.declared.property.Property.{Property}
use Rattle.std.specs.Rc.{rc_value}
use Rattle.std.proofs.Math.ListN.{get_or-map}
use Rattle.std.proofs.lemmas.Nat.Bits.{bit_at-lt}
use Rattle.xsmp_properties.specs.Named.{place_among}
use Rattle.xsmp_properties.specs.Tables.{find_property}
use Rattle.xsmp_properties.proofs.ShownLaws.{find-missing, found-at, hidden-there}
use Rattle.xsmp_properties.proofs.shared.SharedProperties.get.Goals as goal

pub returns-then-place-len : goal.returns-then-place-len
returns-then-place-len c =
    let name = c.args.name.now in
    let items = rc_value c.self.inside.named in
    let at : c.place-place.result ≡ place_among name items = c.place-place.ensures ∙ ap (place_among name) c.as_ref-named.ensures in
    let le : length items ≤ place_among name items = omega (arith, c.if-place-len.true, c.len.ensures.len, ap length c.as_ref-named.ensures, at) in
    sym (find-missing name items c.self.inside.hidden 0 le) ∙ ap (find_property name) c.self.view_is

pub returns-then-self-place-eq1 : goal.returns-then-self-place-eq1
returns-then-self-place-eq1 c =
    let name = c.args.name.now in
    let items = rc_value c.self.inside.named in
    let place = c.place-place.result in
    let at : place ≡ place_among name items = c.place-place.ensures ∙ ap (place_among name) c.as_ref-named.ensures in
    let lt : place < length items = omega (arith, c.if-place-len.false, c.len.ensures.len, ap length c.as_ref-named.ensures) in
    hidden-there name items place c.self.invariant.1 at lt c.self.inside.hidden c.if-self-place-eq1.true ∙ ap (find_property name) c.self.view_is

pub returns : goal.returns
returns c =
    let name = c.args.name.now in
    let items = rc_value c.self.inside.named in
    let place = c.place-place.result in
    let hidden = c.self.inside.hidden in
    let at : place ≡ place_among name items = c.place-place.ensures ∙ ap (place_among name) c.as_ref-named.ensures in
    let lt : place < length items = omega (arith, c.if-place-len.false, c.len.ensures.len, ap length c.as_ref-named.ensures) in
    let shown : bit_at hidden place ≡ 0 = omega (arith, c.if-self-place-eq1.false, bit_at-lt hidden place) in
    let held = c.as_slice.ensures ∙ c.as_ref-named.ensures in
    let x = c.index-as_slice-place.result in
    let there : rc_value x ≡ get_or items place (rc_value x) =
    ap rc_value c.index-as_slice-place.is ∙ sym (get_or-map rc_value c.as_slice.result.now place x) ∙ ap (λ (l : List Property). get_or l place (rc_value x)) held in
    ap (λ (q : Property). Some q) c.as_ref.ensures ∙ found-at name items place c.self.invariant.1 at lt hidden (rc_value x) shown there ∙ ap (find_property name) c.self.view_is
