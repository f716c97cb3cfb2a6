-- The frames of whole streams, and of streams that go on.
use Rattle.std.proofs.Common.{◌≡◌, ℕ, List, [], ◌++◌, length, drop, refl, ap, ◌∙◌, append-nil}
use Rattle.std.proofs.Math.Seq.{drop-append_seam}
use Rattle.ice_framing.specs.Frames.{Cut, beginning, fed, cut, frames_of, standing_of, IsOversize}
use Rattle.ice_framing.proofs.Cuts.{cut-fed, cut-oversize, oversize-fed}

pub frames_of-nil : frames_of [] ≡ []
unfolding cut
frames_of-nil = refl

pub standing_of-nil : standing_of [] ≡ beginning
unfolding cut
standing_of-nil = refl

-- as more bytes come, frames come behind those that there are
pub frames_of-append : (stream bytes : List ℕ) → frames_of (stream ++ bytes) ≡ frames_of stream ++ (cut (fed (standing_of stream) bytes)).frames
frames_of-append stream bytes = ap (λ (c : Cut). c.frames) (cut-fed (fed beginning stream) bytes)

pub standing_of-append : (stream bytes : List ℕ) → standing_of (stream ++ bytes) ≡ (cut (fed (standing_of stream) bytes)).standing
standing_of-append stream bytes = ap (λ (c : Cut). c.standing) (cut-fed (fed beginning stream) bytes)

-- the new ones are those that are cut from where the stream stood
pub new_frames : (stream bytes : List ℕ) → drop (length (frames_of stream)) (frames_of (stream ++ bytes)) ≡ (cut (fed (standing_of stream) bytes)).frames
new_frames stream bytes =
    ap (drop (length (frames_of stream))) (frames_of-append stream bytes) ∙ drop-append_seam (frames_of stream) (cut (fed (standing_of stream) bytes)).frames

-- behind a header that states too much no frame comes
pub frames_of-oversize : (stream bytes : List ℕ) → IsOversize (standing_of stream) → frames_of (stream ++ bytes) ≡ frames_of stream
frames_of-oversize stream bytes much =
    frames_of-append stream bytes
    ∙ ap (λ (c : Cut). frames_of stream ++ c.frames) (cut-oversize (fed (standing_of stream) bytes) (oversize-fed (standing_of stream) bytes much))
    ∙ append-nil (frames_of stream)

pub standing_of-oversize : (stream bytes : List ℕ) → IsOversize (standing_of stream) → standing_of (stream ++ bytes) ≡ fed (standing_of stream) bytes
standing_of-oversize stream bytes much =
    standing_of-append stream bytes ∙ ap (λ (c : Cut). c.standing) (cut-oversize (fed (standing_of stream) bytes) (oversize-fed (standing_of stream) bytes much))
