-- What is known of a party as its stream goes on.
use Rattle.std.proofs.Common.{◌≡◌, ℕ, List, [], ◌∷◌, ◌++◌, Option, Some, None, refl, sym, ap, ◌∙◌, subst}
use Rattle.ice_framing.specs.Frames.{Standing, beginning, fed, cut, frames_of, standing_of, IsOversize}
use Rattle.ice_framing.specs.declared.cutting.WholeFrame.{WholeFrame}
use Rattle.ice_framing.proofs.Cuts.{oversize-fed}
use Rattle.ice_framing.proofs.Streams.{frames_of-nil, standing_of-nil, frames_of-oversize, standing_of-oversize}
use Rattle.client_quirks.proofs.Grown.{grown, speech_grown}
use Rattle.frame_speech.specs.Speech.{speech_behind}
use Rattle.client_quirks.specs.Sides.{new_frames, GoesOn, CutsOn, IsSide}
use Rattle.client_quirks.specs.Leaving.{Mark, mark_heard, mark_told, heard_behind, told_behind}
use Rattle.frame_speech.specs.declared.speech.Speech.{Speech}
use Rattle.frame_speech.specs.declared.speech.Speech.TheVariants.{Silent}
use Rattle.client_quirks.specs.declared.side.Side.{Side}

pub heard_speech : (m : Mark) (fs : List WholeFrame) → (heard_behind m fs).speech ≡ speech_behind m.speech fs
heard_speech m [] = refl
heard_speech m (f ∷ fs) = heard_speech (mark_heard m f) fs

pub told_speech : (m : Mark) (fs : List WholeFrame) → (told_behind m fs).speech ≡ speech_behind m.speech fs
told_speech m [] = refl
told_speech m (f ∷ fs) = told_speech (mark_told m f) fs

-- before the first byte
pub begins : (cutter : Standing) (side : Side) → cutter ≡ beginning → side.cutter ≡ Some cutter → side.speech ≡ Silent → IsSide [] side
begins cutter side is some silent = record {
  stands = subst (λ (c : Option Standing). GoesOn (standing_of []) c) (sym some) (is ∙ sym standing_of-nil);
  understood = silent ∙ sym (ap (speech_behind Silent) frames_of-nil);
}

goes_on : (stream piece : List ℕ) (old new : Option Standing) → GoesOn (standing_of stream) old → CutsOn old piece new → GoesOn (standing_of (stream ++ piece)) new
goes_on stream piece None new much none =
    subst (λ (c : Option Standing). GoesOn (standing_of (stream ++ piece)) c) (sym none) (subst (λ (s : Standing). IsOversize s) (sym (standing_of-oversize stream piece much)) (oversize-fed (standing_of stream) piece much))
goes_on stream piece (Some cutter) new is on = subst (λ (s : Standing). GoesOn s new) (sym (grown stream piece cutter is).stands) on

speech_on : (stream piece : List ℕ) (old : Option Standing) → GoesOn (standing_of stream) old → speech_behind (speech_behind Silent (frames_of stream)) (new_frames old piece) ≡ speech_behind Silent (frames_of (stream ++ piece))
speech_on stream piece None much = sym (ap (speech_behind Silent) (frames_of-oversize stream piece much))
speech_on stream piece (Some cutter) is = sym (speech_grown stream piece (cut (fed cutter piece)).frames (cut (fed cutter piece)).standing (grown stream piece cutter is))

pub side_grown : (stream piece : List ℕ) (old new : Side) → CutsOn old.cutter piece new.cutter → new.speech ≡ speech_behind old.speech (new_frames old.cutter piece) → IsSide stream old → IsSide (stream ++ piece) new
side_grown stream piece old new on speech side = record {
  stands = goes_on stream piece old.cutter new.cutter side.stands on;
  understood = speech ∙ ap (λ (s : Speech). speech_behind s (new_frames old.cutter piece)) side.understood ∙ speech_on stream piece old.cutter side.stands;
}
