-- Frames behind frames.
use Rattle.std.proofs.Common.{◌≡◌, ℕ, ◌+◌, ◌<◌, List, [], ◌∷◌, ◌++◌, length, drop, get_or, refl, sym, ap, ◌∙◌}
use Rattle.std.proofs.lemmas.List.{at_drop_more}
use Rattle.ice_framing.specs.declared.cutting.WholeFrame.{WholeFrame}
use Rattle.frame_speech.specs.Speech.{reading, after, speech_behind}
use Rattle.frame_speech.specs.declared.speech.Speech.{Speech}

pub speech_behind-append : (s : Speech) (xs ys : List WholeFrame) → speech_behind s (xs ++ ys) ≡ speech_behind (speech_behind s xs) ys
speech_behind-append s [] ys = refl
speech_behind-append s (f ∷ xs) ys = speech_behind-append (after s (reading s f)) xs ys

-- a function of what is left, one frame on
pub on : {Y : Type 0} (F : List WholeFrame → Y) (frames : List WholeFrame) (i : ℕ) (f : WholeFrame) → i < length frames → f ≡ get_or frames i f → F (f ∷ drop (i + 1) frames) ≡ F (drop i frames)
on F frames i f there is = ap (λ (g : WholeFrame). F (g ∷ drop (i + 1) frames)) is ∙ sym (at_drop_more F frames i f there)
