-- Going over the frames of a stream, one after another.
use Rattle.std.proofs.Common.{◌≡◌, ℕ, ◌+◌, ◌<◌, ◌≤◌, List, ◌++◌, length, drop, get_or, Bool, true, false, ◌||◌, refl, sym, ap, ◌∙◌, append_assoc, append-nil}
use Rattle.std.proofs.Math.Bool.{or_assoc}
use Rattle.std.proofs.lemmas.List.{at_drop_all}
use Rattle.ice_framing.specs.declared.cutting.WholeFrame.{WholeFrame}
use Rattle.frame_speech.proofs.Speeches.{on}
use Rattle.frame_speech.specs.Speech.{reading, after, speech_behind}
use Rattle.client_quirks.specs.Speech.{is_changed, spelled_anew, handed_on, are_changed}
use Rattle.frame_speech.specs.declared.speech.Speech.{Speech}

-- The frames before the i-th were walked over: what is left does to what there is what all of them do to what there was.
pub record Walking (first : Speech) (frames : List WholeFrame) (old : List ℕ) (speech : Speech) (changed : Bool) (out : List ℕ) (i : ℕ) : Type 0 where
  pub speech_is : speech_behind speech (drop i frames) ≡ speech_behind first frames
  pub changed_is : (changed || are_changed speech (drop i frames)) ≡ are_changed first frames
  pub out_is : out ++ handed_on speech (drop i frames) ≡ old ++ handed_on first frames

or-nil : (a : Bool) → (a || false) ≡ a
or-nil true = refl
or-nil false = refl

pub walked_one : (first : Speech) (frames : List WholeFrame) (old : List ℕ) (speech : Speech) (changed : Bool) (out : List ℕ) (i : ℕ) (f : WholeFrame) (grown : List ℕ) (next : Speech) (also : Bool) → Walking first frames old speech changed out i → i < length frames → f ≡ get_or frames i f → next ≡ after speech (reading speech f) → also ≡ is_changed f (reading speech f) → grown ≡ out ++ spelled_anew f (reading speech f)
    → Walking first frames old next (changed || also) grown (i + 1)
walked_one first frames old speech changed out i f grown next also walking there is goes changes grows = record {
  speech_is = ap (λ (s : Speech). speech_behind s (drop (i + 1) frames)) goes ∙ on (speech_behind speech) frames i f there is ∙ walking.speech_is;
  changed_is =
      ap (λ (s : Speech). (changed || also) || are_changed s (drop (i + 1) frames)) goes
      ∙ ap (λ (b : Bool). (changed || b) || are_changed (after speech (reading speech f)) (drop (i + 1) frames)) changes
      ∙ or_assoc changed (is_changed f (reading speech f)) (are_changed (after speech (reading speech f)) (drop (i + 1) frames))
      ∙ ap (λ (b : Bool). changed || b) (on (are_changed speech) frames i f there is)
      ∙ walking.changed_is;
  out_is =
      ap (λ (s : Speech). grown ++ handed_on s (drop (i + 1) frames)) goes
      ∙ ap (λ (bytes : List ℕ). bytes ++ handed_on (after speech (reading speech f)) (drop (i + 1) frames)) grows
      ∙ append_assoc out (spelled_anew f (reading speech f)) (handed_on (after speech (reading speech f)) (drop (i + 1) frames))
      ∙ ap (λ (bytes : List ℕ). out ++ bytes) (on (handed_on speech) frames i f there is)
      ∙ walking.out_is;
}

pub walked_all : (first : Speech) (frames : List WholeFrame) (old : List ℕ) (speech : Speech) (changed : Bool) (out : List ℕ) (i : ℕ) → Walking first frames old speech changed out i → length frames ≤ i
    → (speech ≡ speech_behind first frames) × (changed ≡ are_changed first frames) × (out ≡ old ++ handed_on first frames)
walked_all first frames old speech changed out i walking over = (
  sym (at_drop_all (speech_behind speech) frames i over) ∙ walking.speech_is,
  sym (ap (λ (b : Bool). changed || b) (at_drop_all (are_changed speech) frames i over) ∙ or-nil changed) ∙ walking.changed_is,
  sym (ap (λ (bytes : List ℕ). out ++ bytes) (at_drop_all (handed_on speech) frames i over) ∙ append-nil out) ∙ walking.out_is,
)
