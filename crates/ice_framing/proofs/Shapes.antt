-- What the frames of a stream look like, and that they make it up.
use Rattle.std.proofs.Common.{◌≡◌, ℕ, zero, suc, ◌≤◌, ◌⊎◌, List, [], ◌∷◌, ◌++◌, length, take, drop, Some, None, refl, sym, ap, ◌∙◌, subst, arith, append_assoc}
use Rattle.std.specs.List.{flat_map, AllByRecursion}
use Rattle.std.proofs.lemmas.List.{take-append-drop, length-take-le}
use Rattle.ice_values.specs.declared.numbers.Endian.{Endian}
use Rattle.ice_framing.specs.Frames.{Standing, Cut, beginning, fed, units, units_in, wanted, endian, endian_in, has_frame, first_frame, without_first, uncut, behind, cut_upto, cut, frames_of, standing_of, IsPartial, IsOversize, IsLater, AreFrames, order_of, IsMadeOf}
use Rattle.ice_values.specs.Numbers.{number}
use Rattle.ice_framing.proofs.Headers.{units_in-append, units_in-number, endian_in-append}
use Rattle.ice_framing.proofs.Cuts.{HasFrame, has_frame-true, has_frame-standing, ends_so, cond-both, header_whole, cut_upto-enough}

-- the frames and what is left are all the bytes
joined_upto : (n : ℕ) (at : Standing) → flat_map (λ frame. frame.bytes) (cut_upto n at).frames ++ (cut_upto n at).standing.held ≡ at.held
joined_upto zero at = refl
joined_upto (suc n) at =
    cond-both (λ (c : Cut). flat_map (λ frame. frame.bytes) c.frames ++ c.standing.held ≡ at.held) (has_frame at) (behind (first_frame at ∷ []) (cut_upto n (without_first at))) (uncut at)
    (λ found.
    append_assoc (take (wanted at) at.held) (flat_map (λ frame. frame.bytes) (cut_upto n (without_first at)).frames) (cut_upto n (without_first at)).standing.held
    ∙ ap (λ rest. take (wanted at) at.held ++ rest) (joined_upto n (without_first at))
    ∙ take-append-drop (wanted at) at.held)
    (λ none. refl)

-- the order stays
order_upto : (n : ℕ) (at : Standing) (e : Endian) → at.order ≡ Some e → (cut_upto n at).standing.order ≡ Some e
order_upto zero at e is = is
order_upto (suc n) at e is =
    cond-both (λ (c : Cut). c.standing.order ≡ Some e) (has_frame at) (behind (first_frame at ∷ []) (cut_upto n (without_first at))) (uncut at)
    (λ found. order_upto n (without_first at) e (ap (λ o. Some (endian_in o at.held)) is))
    (λ none. is)

-- a frame behind the first
pub later_frame : (at : Standing) (e : Endian) → at.order ≡ Some e → HasFrame at → IsLater e (first_frame at)
later_frame at e is found =
    let n = wanted at in
    let len : length (take n at.held) ≡ n = length-take-le n at.held found.whole in
    let within : units at ≤ 8192 = found.within in
    let whole : 8 ≤ length (take n at.held) = omega arith in
    let same : units_in (Some e) (take n at.held) ≡ units_in (Some e) at.held =
    sym (units_in-append (Some e) (take n at.held) (drop n at.held) whole) ∙ ap (units_in (Some e)) (take-append-drop n at.held) in
    let stated : units at ≡ number e 4 (drop 4 (take n at.held)) = ap (λ o. units_in o at.held) is ∙ sym same ∙ units_in-number e (take n at.held) whole in
    record { order = ap (λ o. endian_in o at.held) is; header = whole; units = omega arith; limit = omega arith }

-- the same where just that frame is held
pub lent_later : (at : Standing) (e : Endian) → at.order ≡ Some e → length at.held ≡ wanted at → length at.held ≤ 65544 → IsLater e (record { endian = e; bytes = at.held })
lent_later at e is whole limit =
    let stated : units at ≡ number e 4 (drop 4 at.held) = ap (λ o. units_in o at.held) is ∙ units_in-number e at.held (omega arith) in
    record { order = refl; header = omega arith; units = omega arith; limit = limit }

later_upto : (n : ℕ) (at : Standing) (e : Endian) → at.order ≡ Some e → AllByRecursion (IsLater e) (cut_upto n at).frames
later_upto zero at e is = tt
later_upto (suc n) at e is =
    cond-both (λ (c : Cut). AllByRecursion (IsLater e) c.frames) (has_frame at) (behind (first_frame at ∷ []) (cut_upto n (without_first at))) (uncut at)
    (λ found. (later_frame at e is (has_frame-true at found), later_upto n (without_first at) e (ap (λ o. Some (endian_in o at.held)) is)))
    (λ none. tt)

-- The frames that come behind the first, and the order in which the stream stands.
pub later_frames : (at : Standing) (e : Endian) → at.order ≡ Some e → AllByRecursion (IsLater e) (cut at).frames
later_frames at e is = subst (λ (c : Cut). AllByRecursion (IsLater e) c.frames) (cut_upto-enough (length at.held) at (omega arith)) (later_upto (length at.held) at e is)

pub later_order : (at : Standing) (e : Endian) → at.order ≡ Some e → (cut at).standing.order ≡ Some e
later_order at e is = subst (λ (c : Cut). c.standing.order ≡ Some e) (cut_upto-enough (length at.held) at (omega arith)) (order_upto (length at.held) at e is)

pub joined : (at : Standing) → flat_map (λ frame. frame.bytes) (cut at).frames ++ (cut at).standing.held ≡ at.held
joined at = subst (λ (c : Cut). flat_map (λ frame. frame.bytes) c.frames ++ c.standing.held ≡ at.held) (cut_upto-enough (length at.held) at (omega arith)) (joined_upto (length at.held) at)

-- a stream that ends no more: less than a frame is there, or a header that states too much
pub ends : (at : Standing) → IsPartial (cut at).standing ⊎ IsOversize (cut at).standing
ends at = ends_so (cut at).standing (has_frame-standing at)

-- from the first frame on
shapes_upto : (n : ℕ) (bytes : List ℕ) → AreFrames (cut_upto n (fed beginning bytes)).frames × ((cut_upto n (fed beginning bytes)).standing.order ≡ order_of (cut_upto n (fed beginning bytes)).frames)
shapes_upto zero bytes = (tt, refl)
shapes_upto (suc n) bytes =
    let at = fed beginning bytes in
    cond-both (λ (c : Cut). AreFrames c.frames × (c.standing.order ≡ order_of c.frames)) (has_frame at) (behind (first_frame at ∷ []) (cut_upto n (without_first at))) (uncut at)
    (λ found.
    let whole : 8 ≤ length bytes = header_whole at (has_frame-true at found) in
    let len : length (take 8 bytes) ≡ 8 = length-take-le 8 bytes whole in
    let states : endian_in None bytes ≡ endian_in None (take 8 bytes) = ap (endian_in None) (sym (take-append-drop 8 bytes)) ∙ endian_in-append None (take 8 bytes) (drop 8 bytes) (omega arith) in
    ((len, states, later_upto n (without_first at) (endian at) refl), order_upto n (without_first at) (endian at) refl))
    (λ none. (tt, refl))

pub made_of : (stream : List ℕ) → IsMadeOf stream (frames_of stream) (standing_of stream)
made_of stream =
    let shapes = subst (λ (c : Cut). AreFrames c.frames × (c.standing.order ≡ order_of c.frames)) (cut_upto-enough (length stream) (fed beginning stream) (omega arith)) (shapes_upto (length stream) stream) in
    record { joined = joined (fed beginning stream); shapes = shapes.0; order = shapes.1; end = ends (fed beginning stream) }
