-- Frames that are passed over, one after another.
use Rattle.std.proofs.Common.{◌≡◌, ℕ, ◌+◌, ◌*◌, ◌≤◌, Bool, true, false, List, [], ◌∷◌, length, take, drop, Option, Some, None, refl, sym, ap, ◌∙◌, subst, arith}
use Rattle.std.specs.Prelude.{◌&&◌, ◌==◌, ◌++◌, nat_le, MatchOption}
use Rattle.std.specs.List.{AllByRecursion}
use Rattle.std.proofs.lemmas.Bool.Decides.{nat_tests}
use Rattle.std.proofs.lemmas.Bool.{false≢true}
use Rattle.std.proofs.lemmas.List.{nil_from_length}
use Rattle.ice_values.specs.Numbers.{number}
use Rattle.ice_values.specs.declared.numbers.Endian.{Endian}
use Rattle.ice_framing.specs.Frames.{Standing, Cut, fed, cut, uncut, behind, wanted, has_frame, first_frame, without_first, frames_of, standing_of, StandsAt, IsLater, IsOversize}
use Rattle.ice_framing.specs.declared.cutting.WholeFrame.{WholeFrame}
use Rattle.ice_framing.proofs.Cuts.{has_frame-true, cut-whole, cut-partial, frame_is, standing_is}
use Rattle.ice_framing.proofs.Shapes.{later_frame}
use Rattle.ice_framing.proofs.Streams.{frames_of-append, standing_of-append}
use Rattle.frame_speech.specs.Speech.{is_whole, reading, after, speech_behind}
use Rattle.frame_speech.specs.Passing.{from, IsFront, IsPassed, Passes, PassesBy, SaysNothing}
use Rattle.frame_speech.specs.Streams.{IsAt, Cuts}
use Rattle.frame_speech.proofs.Streams.{Stands, was_over}
use Rattle.frame_speech.specs.declared.speech.Speech.{Speech}
use Rattle.frame_speech.specs.declared.speech.Speech.TheVariants.{Silent, Greeted, Speaks, Lost}
use Rattle.frame_speech.specs.declared.reading.Reading.TheVariants.{Nothing}
use Rattle.frame_speech.specs.declared.stream.CutStream.{CutStream}

pub whole_by : (f : WholeFrame) → 8 ≤ length f.bytes → length f.bytes ≡ 8 + 8 * number f.endian 4 (drop 4 f.bytes) → is_whole f ≡ true
whole_by f header units = grind (arith, nat_tests)

-- Frames were passed over: behind all bytes the stream stands as behind what is left of them.
pub record Passing (ignores : WholeFrame → Type 0) (e : Endian) (bytes rest : List ℕ) : Type 0 where
  pub stands : (cut (from e rest)).standing ≡ (cut (from e bytes)).standing
  pub frames : AllByRecursion (IsPassed ignores) (cut (from e rest)).frames → AllByRecursion (IsPassed ignores) (cut (from e bytes)).frames

pub none_passed : (ignores : WholeFrame → Type 0) (e : Endian) (bytes : List ℕ) → Passing ignores e bytes bytes
none_passed ignores e bytes = record { stands = refl; frames = λ all. all }

pub one_passed : (ignores : WholeFrame → Type 0) (e : Endian) (bytes rest front left : List ℕ) (len : ℕ) → Passing ignores e bytes rest → IsFront (from e rest) len → front ≡ take len rest → left ≡ drop len rest
    → ignores (record { endian = e; bytes = front }) → Passing ignores e bytes left
one_passed ignores e bytes rest front left len passing found front_is left_is ignored =
    let at = from e rest in
    let whole = has_frame-true at found.found in
    let is : cut at ≡ behind (first_frame at ∷ []) (cut (without_first at)) = cut-whole at whole in
    let next : from e left ≡ without_first at = standing_is (Some e) (Some e) left (drop (wanted at) rest) refl (left_is ∙ ap (λ n. drop n rest) found.len_is) in
    let frame : ◌≡◌ {A = WholeFrame} (record { endian = e; bytes = front }) (first_frame at) = frame_is e e front (take (wanted at) rest) refl (front_is ∙ ap (λ n. take n rest) found.len_is) in
    let later : IsLater e (first_frame at) = later_frame at e refl whole in
    let passed : IsPassed ignores (first_frame at) = (whole_by (first_frame at) later.header later.units, subst (λ (f : WholeFrame). ignores f) frame ignored) in
    record {
      stands = ap (λ (s : Standing). (cut s).standing) next ∙ sym (ap (λ (c : Cut). c.standing) is) ∙ passing.stands;
      frames = λ all. passing.frames (subst (λ (c : Cut). AllByRecursion (IsPassed ignores) c.frames) (sym is) (passed, subst (λ (s : Standing). AllByRecursion (IsPassed ignores) (cut s).frames) next all));
    }

empty_by : (bytes : List ℕ) → (length bytes == 0) ≡ true → bytes ≡ []
empty_by bytes is = nil_from_length bytes (grind (arith, nat_tests))

pub all_passed : (ignores : WholeFrame → Type 0) (e : Endian) (bytes rest : List ℕ) → Passing ignores e bytes rest → (length rest == 0) ≡ true → Passes ignores (from e []) bytes
all_passed ignores e bytes rest passing is =
    let none : cut (from e rest) ≡ uncut (from e []) = ap (λ (left : List ℕ). cut (from e left)) (empty_by rest is) ∙ cut-partial (from e []) (omega arith) in
    record {
      none_held = refl;
      stands = sym passing.stands ∙ ap (λ (c : Cut). c.standing) none;
      frames = passing.frames (subst (λ (c : Cut). AllByRecursion (IsPassed ignores) c.frames) (sym none) tt);
    }

-- it stands between two frames
pub stands_between : (at : Standing) (e : Endian) → at.order ≡ Some e → at.held ≡ [] → at ≡ from e []
stands_between at e order held = standing_is at.order (Some e) at.held [] order held

-- where nothing is held, between two frames
pub between : (ignores : WholeFrame → Type 0) (e : Endian) (at : Standing) (bytes : List ℕ) → at.order ≡ Some e → at.held ≡ [] → Passes ignores (from e []) bytes → Passes ignores at bytes
between ignores e at bytes order held passes = subst (λ (s : Standing). Passes ignores s bytes) (sym (stands_between at e order held)) passes

-- ---- of a stream

pub goes_so : (stream bytes : List ℕ) (cutter : CutStream) (at : Standing) → cutter.rest ≡ Some at → (cut (fed at bytes)).standing ≡ at → IsAt stream cutter → Cuts stream bytes (cut (fed at bytes)).frames cutter
goes_so stream bytes cutter at some stays is =
    let stands = subst (λ (o : Option Standing). Stands stream o) some is in
    let there : standing_of (stream ++ bytes) ≡ standing_of stream = standing_of-append stream bytes ∙ ap (λ (s : Standing). (cut (fed s bytes)).standing) (sym stands.0) ∙ stays ∙ stands.0 in
    record {
      frames = frames_of-append stream bytes ∙ ap (λ (s : Standing). frames_of stream ++ (cut (fed s bytes)).frames) (sym stands.0);
      stands = subst (λ (s : Standing). MatchOption cutter.rest (IsOversize s) (λ (r : Standing). StandsAt s r None)) (sym there) is;
    }

pub goes_by : (ignores : WholeFrame → Type 0) (bytes : List ℕ) (cutter : CutStream) (at : Standing) → cutter.rest ≡ Some at → Passes ignores at bytes → PassesBy ignores bytes cutter
goes_by ignores bytes cutter at some passes = record {
  new = (cut (fed at bytes)).frames;
  cuts = λ stream is. goes_so stream bytes cutter at some passes.stands is;
  frames = passes.frames;
}

ends_so : (stream bytes : List ℕ) (cutter : CutStream) → cutter.rest ≡ None → IsAt stream cutter → Cuts stream bytes [] cutter
ends_so stream bytes cutter none is =
    let over = was_over stream bytes (subst (λ (o : Option Standing). Stands stream o) none is) in
    record { frames = over.frames; stands = subst (λ (o : Option Standing). Stands (stream ++ bytes) o) (sym none) over.stands }

pub goes_nowhere : (ignores : WholeFrame → Type 0) (bytes : List ℕ) (cutter : CutStream) → cutter.rest ≡ None → PassesBy ignores bytes cutter
goes_nowhere ignores bytes cutter none = record { new = []; cuts = λ stream is. ends_so stream bytes cutter none is; frames = tt }

-- ---- what is understood

pub passed_reading : (s : Speech) (f : WholeFrame) → IsPassed (SaysNothing s) f → reading s f ≡ Nothing
passed_reading Silent f passed = absurd (false≢true (sym passed.1))
passed_reading Greeted f passed = absurd (false≢true (sym passed.1))
passed_reading (Speaks opcode) f passed = rw (passed.0, passed.1) refl
passed_reading Lost f passed = rw passed.0 refl

pub passed_speech : (s : Speech) (fs : List WholeFrame) → AllByRecursion (IsPassed (SaysNothing s)) fs → speech_behind s fs ≡ s
passed_speech s [] all = refl
passed_speech s (f ∷ fs) all = ap (λ (t : Speech). speech_behind t fs) (ap (after s) (passed_reading s f all.0)) ∙ passed_speech s fs all.1
