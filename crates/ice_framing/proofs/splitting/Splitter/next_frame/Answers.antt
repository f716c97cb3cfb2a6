use Rattle.std.proofs.Common.{◌≡◌, ◌+◌, ◌*◌, ◌≤◌, [], ◌∷◌, length, arith, ap, subst, ◌∙◌}
use Rattle.ice_framing.specs.Frames.{Standing, fed, units_in, endian_in, without_first, behind, cut}
use Rattle.ice_framing.proofs.Cuts.{lent_first}
use Rattle.ice_framing.proofs.splitting.Splitter.next_frame.Goals as goal

pub returns-clause-first : goal.returns-clause-first
returns-clause-first c = λ more.
    let order = c.self.inside.order in
    let held = c.self.inside.held.items in
    let stated : c.units_of.result ≡ units_in order held = c.units_of.ensures ∙ ap (units_in order) c.deref.ensures.value in
    let len : c.len.result ≡ length held = omega (arith, ap length c.deref.ensures.value) in
    let whole : length held ≡ 8 + 8 * units_in order held = omega (arith, c.if-len-units_of.false) in
    let limit : length held ≤ 65544 = c.self.invariant.within_limit in
    let states : c.endian_of.result ≡ endian_in order held = c.endian_of.ensures ∙ ap (endian_in order) c.deref-2.ensures.value in
    subst (λ (at : Standing). cut (fed at more) ≡ behind (record { endian = c.endian_of.result; bytes = c.as_slice.result.now } ∷ []) (cut (fed (without_first at) more))) c.self.view_is
    (lent_first (record { order = order; held = held }) c.endian_of.result c.as_slice.result.now more whole limit states c.as_slice.ensures.value)
