-- The parts of a stream that comes in pieces.
use Rattle.std.proofs.Common.{◌≡◌, ℕ, ◌≤◌, List, [], ◌∷◌, ◌++◌, length, map, take, drop, Option, Some, None, refl, sym, ◌∙◌, ap, arith, append_assoc}
use Rattle.std.proofs.Math.Seq.{drop-append_seam}
use Rattle.std.proofs.lemmas.List.{append-nil, map-append, take_all, take-append-le}
use Rattle.ice_values.specs.declared.numbers.Endian.{Endian}
use Rattle.ice_framing.specs.Frames.{Standing, Cut, fed, cut, behind, frames_of, standing_of, IsPartial, IsOversize, units, unit_limit}
use Rattle.ice_framing.specs.declared.cutting.WholeFrame.{WholeFrame}
use Rattle.ice_framing.specs.Parts.{Part, Whole, TooMuch, oversize_part, parts_at, parts_of, new_parts}
use Rattle.ice_framing.proofs.Cuts.{cut-fed, cut-partial, cut-oversize, oversize-fed, stated_whole, true-is_oversize, false-is_oversize}
use Rattle.ice_framing.proofs.Streams.{frames_of-append, standing_of-append}

-- the parts of what was cut
parts_in : Cut → List Part
parts_in c = map Whole c.frames ++ oversize_part c.standing

-- the first frame is the first part
pub parts_at-whole : (at after : Standing) (frame : WholeFrame) → cut at ≡ behind (frame ∷ []) (cut after) → parts_at at ≡ Whole frame ∷ parts_at after
unfolding parts_in
parts_at-whole at after frame e = ap parts_in e

-- where no part is whole there is none
pub parts_at-partial : (at : Standing) → IsPartial at → units at ≤ unit_limit → parts_at at ≡ []
unfolding parts_in
parts_at-partial at partial within = ap parts_in (cut-partial at partial) ∙ rw (false-is_oversize at within) refl

-- the header of an oversize frame is the last part
pub parts_at-oversize : (at : Standing) → IsOversize at → parts_at at ≡ TooMuch (take 8 at.held) ∷ []
unfolding parts_in
parts_at-oversize at oversize = ap parts_in (cut-oversize at oversize) ∙ rw (true-is_oversize at oversize) refl

-- as a piece comes, parts come behind those that there are
pub parts_of-append : (stream piece : List ℕ) → units (standing_of stream) ≤ unit_limit → parts_of (stream ++ piece) ≡ parts_of stream ++ parts_at (fed (standing_of stream) piece)
parts_of-append stream piece within =
    let before : parts_of stream ≡ map Whole (frames_of stream) = rw (false-is_oversize (standing_of stream) within) (append-nil (map Whole (frames_of stream))) in
    let frames : frames_of (stream ++ piece) ≡ frames_of stream ++ (cut (fed (standing_of stream) piece)).frames = frames_of-append stream piece in
    let standing : standing_of (stream ++ piece) ≡ (cut (fed (standing_of stream) piece)).standing = standing_of-append stream piece in
    rw (before, frames, standing, map-append) (append_assoc (map Whole (frames_of stream)) (map Whole (cut (fed (standing_of stream) piece)).frames) (oversize_part (cut (fed (standing_of stream) piece)).standing))

-- as bytes come behind a stream that goes on, parts come behind those that there are
pub parts_at-more : (at : Standing) (bytes : List ℕ) → units (cut at).standing ≤ unit_limit → parts_at (fed at bytes) ≡ parts_at at ++ parts_at (fed (cut at).standing bytes)
unfolding parts_in
parts_at-more at bytes within =
    let later : Cut = cut (fed (cut at).standing bytes) in
    let before : parts_at at ≡ map Whole (cut at).frames = rw (false-is_oversize (cut at).standing within) (append-nil (map Whole (cut at).frames)) in
    ap parts_in (cut-fed at bytes)
    ∙ (ap (λ (ps : List Part). ps ++ oversize_part later.standing) (map-append Whole (cut at).frames later.frames)
    ∙ (append_assoc (map Whole (cut at).frames) (map Whole later.frames) (oversize_part later.standing)
    ∙ ap (λ (ps : List Part). ps ++ parts_at (fed (cut at).standing bytes)) (sym before)))

-- behind a header that states too much none comes
pub parts_at-ended : (at : Standing) (bytes : List ℕ) → IsOversize (cut at).standing → parts_at (fed at bytes) ≡ parts_at at
unfolding parts_in
parts_at-ended at bytes much =
    let end : Standing = (cut at).standing in
    let still : IsOversize (fed end bytes) = oversize-fed end bytes much in
    let whole : 8 ≤ length end.held = stated_whole end (omega (arith, much)) in
    let header : oversize_part (fed end bytes) ≡ oversize_part end = rw (true-is_oversize (fed end bytes) still, true-is_oversize end much) (ap (λ (h : List ℕ). TooMuch h ∷ []) (take-append-le 8 end.held bytes whole)) in
    ap parts_in (cut-fed at bytes)
    ∙ (ap (λ (c : Cut). parts_in (behind (cut at).frames c)) (cut-oversize (fed end bytes) still)
    ∙ (ap (λ (fs : List WholeFrame). map Whole fs ++ oversize_part (fed end bytes)) (append-nil (cut at).frames)
    ∙ ap (λ (ps : List Part). map Whole (cut at).frames ++ ps) header))

-- the parts that a piece brings are those from where the stream stood
pub new_parts-is : (stream piece : List ℕ) → units (standing_of stream) ≤ unit_limit → new_parts stream piece ≡ parts_at (fed (standing_of stream) piece)
new_parts-is stream piece within = rw (parts_of-append stream piece within) (drop-append_seam (parts_of stream) (parts_at (fed (standing_of stream) piece)))

-- ---- what a splitter holds as parts are cut

-- what is cut behind a whole frame
pub behind_standing : (at after : Standing) (frame : WholeFrame) → cut at ≡ behind (frame ∷ []) (cut after) → (cut after).standing ≡ (cut at).standing
behind_standing at after frame e = sym (ap (λ (c : Cut). c.standing) e)

-- all bytes were taken, and no part is whole
pub held_all : (at now : Standing) (left : List ℕ) (n : ℕ) → now ≡ fed at (take n left) → n ≡ length left → now ≡ fed at left
held_all at now left n taken all = taken ∙ ap (fed at) (take_all n left (omega (arith, all)))

pub none_whole : (at now : Standing) (left : List ℕ) → now ≡ fed at left → IsPartial now → units now ≤ unit_limit → parts_at (fed at left) ≡ []
none_whole at now left held partial within = ap parts_at (sym held) ∙ parts_at-partial now partial within

drop_whole : (xs : List ℕ) → drop (length xs) xs ≡ []
drop_whole [] = refl
drop_whole (x ∷ xs) = drop_whole xs

empty_partial : (order : Option Endian) → IsPartial (record { order = order; held = [] })
empty_partial None = omega arith
empty_partial (Some e) = omega arith

empty_within : (order : Option Endian) → units (record { order = order; held = [] }) ≤ unit_limit
empty_within None = omega arith
empty_within (Some e) = omega arith

-- nothing is cut behind its header
pub forgotten : (before after : Standing) (left : List ℕ) → after ≡ record { order = before.order; held = [] } → parts_at (fed after (drop (length left) left)) ≡ []
forgotten before after left is = rw (is, drop_whole left) (parts_at-partial (record { order = before.order; held = [] }) (empty_partial before.order) (empty_within before.order))
