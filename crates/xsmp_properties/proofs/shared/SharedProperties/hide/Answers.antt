use Rattle.std.proofs.Common.{◌≡◌, [], ◌∷◌, ◌<◌, ◌≤◌, length, ap, sym, ◌∙◌, arith}
use Rattle.std.specs.Int.{w128}
use Rattle.std.specs.Rc.{rc_value}
use Rattle.std.proofs.lemmas.Nat.Bits.{bit_at_set_same, bit_at_set_other}
use Rattle.xsmp_properties.specs.Named.{place_among}
use Rattle.xsmp_properties.specs.Tables.{without_names}
use Rattle.xsmp_properties.proofs.ShownLaws.{hidden-at, hidden-missing}
use Rattle.xsmp_properties.proofs.shared.SharedProperties.hide.Goals as goal

pub returns-then-place-len : goal.returns-then-place-len
returns-then-place-len c =
    let name = c.args.name.now in
    let items = rc_value c.self.inside.named in
    let place = c.place-place.result in
    let hidden = c.self.inside.hidden in
    let at : place ≡ place_among name items = c.place-place.ensures ∙ ap (place_among name) c.as_ref.ensures in
    let lt : place < length items = omega (arith, c.if-place-len.true, c.len.ensures.len, ap length c.as_ref-2.ensures) in
    let within : place < 128 = omega (arith, lt, c.self.invariant.0) in
    hidden-at name items place c.self.invariant.1 at lt _ hidden (bit_at_set_same w128 hidden place within) (bit_at_set_other w128 hidden place within) ∙ ap (without_names (name ∷ [])) c.self.view_is

pub returns-else-place-len : goal.returns-else-place-len
returns-else-place-len c =
    let name = c.args.name.now in
    let items = rc_value c.self.inside.named in
    let le : length items ≤ place_among name items = omega (arith, c.if-place-len.false, c.len.ensures.len, ap length c.as_ref-2.ensures, c.place-place.ensures ∙ ap (place_among name) c.as_ref.ensures) in
    sym c.self.view_is ∙ hidden-missing name items c.self.inside.hidden 0 le ∙ ap (without_names (name ∷ [])) c.self.view_is
