use Rattle.std.proofs.Common.{◌≡◌, ◌≤◌, ◌∙◌, List, length, map, ap, sym, arith}
use Rattle.xsmp_properties.specs.Sizes.{place_of, shown}
use Rattle.xsmp_properties.specs.declared.sizes.Size.{Size}
use Rattle.xsmp_properties.proofs.SizeLaws.{place_written, no_place, one_longer, shown-more}
use Rattle.xsmp_properties.proofs.sizes.TableSizes.set.Goals as goal

pub returns-then-place-len-clause-room : goal.returns-then-place-len-clause-room
returns-then-place-len-clause-room c = λ yes.
    let held = c.args.self.now.held.items in
    let size : Size = record { name = c.args.name; length = c.args.size } in
    let is : c.place-place.result ≡ place_of c.args.name.now (map shown held) = c.place-place.ensures ∙ ap (λ (l : List Size). place_of c.args.name.now (map shown l)) c.as_slice.ensures.value in
    place_written held c.deref_mut.result.now c.place-place.result size c.deref_mut.ensures.value is (omega (arith, c.len.ensures.value))

pub returns-then-len-eq-NAME_LIMIT-clause-full : goal.returns-then-len-eq-NAME_LIMIT-clause-full
returns-then-len-eq-NAME_LIMIT-clause-full c = λ none.
    let held = c.args.self.now.held.items in
    let is : c.place-place.result ≡ place_of c.args.name.now (map shown held) = c.place-place.ensures ∙ ap (λ (l : List Size). place_of c.args.name.now (map shown l)) c.as_slice.ensures.value in
    let behind : length held ≤ c.place-place.result = omega (arith, c.len.ensures.value) in
    omega (arith, one_longer held c.place-place.result (c.args.name.now, c.args.size) is behind, c.len-2.ensures.value)

pub returns-clause-room : goal.returns-clause-room
returns-clause-room c = λ yes.
    let held = c.args.self.now.held.items in
    let size : Size = record { name = c.args.name; length = c.args.size } in
    let is : c.place-place.result ≡ place_of c.args.name.now (map shown held) = c.place-place.ensures ∙ ap (λ (l : List Size). place_of c.args.name.now (map shown l)) c.as_slice.ensures.value in
    let behind : length held ≤ c.place-place.result = omega (arith, c.len.ensures.value) in
    ap (map shown) c.push.ensures.items ∙ shown-more held size ∙ sym (no_place held c.place-place.result (c.args.name.now, c.args.size) is behind)
