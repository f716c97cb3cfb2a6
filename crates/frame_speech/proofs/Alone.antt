-- A piece that is one whole frame.
use Rattle.std.proofs.Common.{◌≡◌, ℕ, Bool, true, false, List, [], ◌∷◌, length, take, drop, Option, Some, None, refl, sym, ap, ◌∙◌, subst, arith}
use Rattle.std.specs.Prelude.{◌==◌, ◌&&◌, not, IfSome}
use Rattle.std.proofs.lemmas.Bool.{false≢true}
use Rattle.std.proofs.lemmas.Bool.Decides.{nat_tests}
use Rattle.std.proofs.lemmas.List.{take_all, drop_all}
use Rattle.ice_values.specs.declared.numbers.Endian.{Endian}
use Rattle.ice_framing.specs.Frames.{Standing, Cut, cut, uncut, behind, wanted, first_frame, without_first, IsLater}
use Rattle.ice_framing.specs.declared.cutting.WholeFrame.{WholeFrame}
use Rattle.ice_framing.proofs.Cuts.{has_frame-true, cut-whole, cut-partial, frame_is, standing_is}
use Rattle.ice_framing.proofs.Shapes.{later_frame}
use Rattle.frame_speech.specs.Passing.{from, as_frame, may_say, IsFront, ComesAlone, IsAlone}
use Rattle.frame_speech.specs.Settings.{set_in, is_set, may_turn}
use Rattle.frame_speech.specs.Speech.{is_whole, reading, reading_of, after}
use Rattle.frame_speech.specs.declared.speech.Speech.{Speech}
use Rattle.frame_speech.specs.declared.reading.Reading.{Reading}
use Rattle.frame_speech.specs.declared.reading.Reading.TheVariants.{Nothing, Greets, Opens, Sets, Unread}
use Rattle.frame_speech.specs.Streams.{Cuts}
use Rattle.frame_speech.specs.declared.stream.CutStream.{CutStream}
use Rattle.frame_speech.proofs.Passed.{whole_by, goes_so, passed_reading}
use Rattle.frame_speech.proofs.Walked.{whole_reading}

-- the frame at the front is all that there is
pub one_alone : (e : Endian) (bytes : List ℕ) (len : ℕ) → IsFront (from e bytes) len → (len == length bytes) ≡ true → ComesAlone e bytes (from e [])
one_alone e bytes len found is_all =
    let at = from e bytes in
    let whole = has_frame-true at found.found in
    let all : wanted at ≡ length bytes = sym found.len_is ∙ grind (arith, nat_tests) in
    let next : without_first at ≡ from e [] = standing_is (Some e) (Some e) (drop (wanted at) bytes) [] refl (drop_all (wanted at) bytes (omega (arith, all))) in
    let frame : first_frame at ≡ as_frame e bytes = frame_is e e (take (wanted at) bytes) bytes refl (take_all (wanted at) bytes (omega (arith, all))) in
    let later : IsLater e (as_frame e bytes) = subst (λ (f : WholeFrame). IsLater e f) frame (later_frame at e refl whole) in
    let is : cut at ≡ behind (as_frame e bytes ∷ []) (uncut (from e [])) =
    cut-whole at whole ∙ ap (λ (s : Standing). behind (first_frame at ∷ []) (cut s)) next
    ∙ ap (λ (c : Cut). behind (first_frame at ∷ []) c) (cut-partial (from e []) (omega arith))
    ∙ ap (λ (f : WholeFrame). behind (f ∷ []) (uncut (from e []))) frame in
    record {
      frame = record { header = later.header; units = later.units };
      whole = whole_by (as_frame e bytes) later.header later.units;
      stands = ap (λ (c : Cut). c.standing) is;
      frames = ap (λ (c : Cut). c.frames) is;
    }

-- where nothing is held, between two frames
pub between_alone : (e : Endian) (at : Standing) (bytes : List ℕ) → at.order ≡ Some e → at.held ≡ [] → ComesAlone e bytes (from e []) → ComesAlone e bytes at
between_alone e at bytes order held alone = subst (λ (s : Standing). ComesAlone e bytes s) (sym (standing_is at.order (Some e) at.held [] order held)) alone

-- of a stream
alone_so : (e : Endian) (bytes : List ℕ) (cutter : CutStream) (at : Standing) → cutter.rest ≡ Some at → ComesAlone e bytes at → IsAlone e bytes cutter
alone_so e bytes cutter at some alone = record {
  frame = alone.frame;
  whole = alone.whole;
  cuts = λ stream is. subst (λ (fs : List WholeFrame). Cuts stream bytes fs cutter) alone.frames (goes_so stream bytes cutter at some alone.stands is);
}

pub alone_by : (result : Option Endian) (bytes : List ℕ) (cutter : CutStream) (at : Standing) → cutter.rest ≡ Some at → IfSome result (λ e. ComesAlone e bytes at) → IfSome result (λ e. IsAlone e bytes cutter)
alone_by None bytes cutter at some alone = tt
alone_by (Some e) bytes cutter at some alone = alone_so e bytes cutter at some alone

-- ---- a frame that doesn't change how its sender is understood

kept_by : (s : Speech) (r : Reading) → is_set (set_in r) ≡ true → after s r ≡ s
kept_by s Nothing is = absurd (false≢true is)
kept_by s Greets is = absurd (false≢true is)
kept_by s (Opens opcode) is = absurd (false≢true is)
kept_by s (Sets properties) is = refl
kept_by s Unread is = absurd (false≢true is)

stays_by : (s : Speech) (f : WholeFrame) (says sets : Bool) → may_say s f ≡ says → is_set (set_in (reading_of s f)) ≡ sets → is_whole f ≡ true → (says && not sets) ≡ false → after s (reading s f) ≡ s
stays_by s f false sets says_is sets_is whole still = ap (after s) (passed_reading s f (whole, says_is))
stays_by s f true true says_is sets_is whole still = ap (after s) (whole_reading s f whole) ∙ kept_by s (reading_of s f) sets_is
stays_by s f true false says_is sets_is whole still = absurd (false≢true (sym still))

pub stays : (s : Speech) (f : WholeFrame) → is_whole f ≡ true → may_turn s f ≡ false → after s (reading s f) ≡ s
stays s f whole still = stays_by s f (may_say s f) (is_set (set_in (reading_of s f))) refl refl whole still
