-- Pieces whose frames stir up nobody.
use Rattle.std.proofs.Common.{◌≡◌, ℕ, List, [], ◌∷◌, ◌++◌, Bool, true, false, Option, Some, refl, sym, ap, subst}
use Rattle.std.specs.Prelude.{◌==◌, ◌&&◌, ◌||◌, slice_index}
use Rattle.std.specs.List.{AllByRecursion}
use Rattle.std.proofs.lemmas.Bool.{or_parts}
use Rattle.ice_framing.specs.Frames.{Standing}
use Rattle.ice_framing.specs.declared.cutting.WholeFrame.{WholeFrame}
use Rattle.frame_speech.specs.Passing.{from, may_say, IsPassed, Passes}
use Rattle.frame_speech.specs.declared.speech.Speech.{Speech}
use Rattle.frame_speech.specs.declared.speech.Speech.TheVariants.{Silent, Greeted, Speaks, Lost}
use Rattle.frame_speech.specs.Settings.{may_turn, set_in}
use Rattle.frame_speech.specs.Speech.{reading_of}
use Rattle.late_answers.specs.Late.{is_calm}
use Rattle.client_quirks.specs.Amending.{FollowsBy, Takes}
use Rattle.client_quirks.specs.Answering.{AnswersNothingLate, OrdersNothing}
use Rattle.client_quirks.specs.Exchange.{is_about}
use Rattle.client_quirks.specs.Heeding.{is_logout, is_meant_anew, may_mean, MeansNothing, AnswersNothing, AsksNothing}
use Rattle.client_quirks.specs.Quiet.{StirsNothing, IsQuiet, PassesAll, GoesOut}
use Rattle.client_quirks.specs.Sides.{is_between}
use Rattle.client_quirks.specs.declared.amender.Amender.{Amender}
use Rattle.client_quirks.specs.declared.answerer.Answerer.{Answerer}
use Rattle.client_quirks.specs.declared.keeper.Keeper.{Keeper}
use Rattle.client_quirks.specs.declared.quiet.Quiet.{Quiet}
use Rattle.client_quirks.specs.declared.stage.Stage.{Stage}
use Rattle.client_quirks.specs.declared.stage.Stage.TheVariants.{Free}
use Rattle.client_quirks.proofs.Answered.{passes_whole, sends_whole}
use Rattle.client_quirks.proofs.Followed.{let_by}
use Rattle.client_quirks.proofs.Unheard.{has_nothing, hears_at, told_by_is, sent_on}
use Rattle.client_quirks.proofs.Unheeded.{goes_by_some}

all_weaker : (P Q : WholeFrame → Type 0) → ((f : WholeFrame) → P f → Q f) → (fs : List WholeFrame) → AllByRecursion (IsPassed P) fs → AllByRecursion (IsPassed Q) fs
all_weaker P Q weaker [] all = tt
all_weaker P Q weaker (f ∷ fs) all = ((all.0.0, weaker f all.0.1), all_weaker P Q weaker fs all.1)

-- frames that are ignored for one reason are ignored for another that is weaker
passes_weaker : (P Q : WholeFrame → Type 0) (at : Standing) (piece : List ℕ) → ((f : WholeFrame) → P f → Q f) → Passes P at piece → Passes Q at piece
passes_weaker P Q at piece weaker passes = record { none_held = passes.none_held; stands = passes.stands; frames = all_weaker P Q weaker _ passes.frames }

-- ---- one frame

no_logout : (a x y z w : Bool) → (a && (x || y || z && w)) ≡ false → ((a && z) && w) ≡ false
no_logout true x y z w none = (or_parts (x || y) (z && w) none).1
no_logout false x y z w none = refl

still_logout : (s : Speech) (f : WholeFrame) → is_about true s f.bytes ≡ false → is_logout s f.bytes ≡ false
still_logout Silent f still = refl
still_logout Greeted f still = refl
still_logout Lost f still = refl
still_logout (Speaks opcode) f still = no_logout (slice_index f.bytes 0 == opcode) (slice_index f.bytes 1 == 2) (slice_index f.bytes 1 == 9) (slice_index f.bytes 1 == 3) (slice_index f.bytes 9 == 1) still

still_means : (s : Speech) (f : WholeFrame) → StirsNothing s f → MeansNothing s f
still_means s f still = (or_parts (may_mean s f) (is_about true s f.bytes) still).0

still_answers : (s : Speech) (f : WholeFrame) → StirsNothing s f → AnswersNothing s Free f
still_answers s f still = (or_parts (may_turn s f) (is_meant_anew (set_in (reading_of s f))) (still_means s f still)).0

still_late : (s : Speech) (f : WholeFrame) → StirsNothing s f → AnswersNothingLate true false s f
still_late s f still = rw (still_answers s f still, (or_parts (may_mean s f) (is_about true s f.bytes) still).1) refl

still_asks : (s : Speech) (f : WholeFrame) → OrdersNothing true s f → AsksNothing s Free f
still_asks s f still =
    let none = or_parts (may_say s f) (is_about true s f.bytes) still in
    rw (none.0, still_logout s f none.1) refl

-- ---- a piece of the client's

takes_at : (a : Amender) (at : Standing) (piece : List ℕ) → a.cutter ≡ Some at → Passes (MeansNothing a.speech) at piece → Takes a piece (piece ∷ []) a
takes_at a at piece is passes = λ came handed follows.
    subst (λ (o : Option Standing). FollowsBy (came ++ piece ∷ []) (handed ++ piece ∷ []) a.held a.speech o) (sym is)
    (let_by came handed a.held piece a.speech at (subst (λ (o : Option Standing). FollowsBy came handed a.held a.speech o) is follows) passes)

pub all_pass : (quiet : Quiet) (piece : List ℕ) → Passes (StirsNothing quiet.came.speech) (from quiet.came.order []) piece → (a : Amender) (k : Answerer) (e : Keeper) → IsQuiet quiet a k e → PassesAll a k e piece
all_pass quiet piece passes a k e is =
    let s : Speech = quiet.came.speech in
    let at : Standing = from quiet.came.order [] in
    let means : Passes (MeansNothing a.speech) at piece =
    subst (λ (t : Speech). Passes (MeansNothing t) at piece) (sym is.meant) (passes_weaker (StirsNothing s) (MeansNothing s) at piece (still_means s) passes) in
    let late : Passes (AnswersNothingLate true false k.came.speech) at piece =
    subst (λ (t : Speech). Passes (AnswersNothingLate true false t) at piece) (sym is.came) (passes_weaker (StirsNothing s) (AnswersNothingLate true false s) at piece (still_late s) passes) in
    let calm : Passes (AnswersNothingLate (is_calm k.late) false k.came.speech) at piece = subst (λ (b : Bool). Passes (AnswersNothingLate b false k.came.speech) at piece) (sym is.calm) late in
    let answers : Passes (AnswersNothing e.came.speech Free) at piece =
    subst (λ (t : Speech). Passes (AnswersNothing t Free) at piece) (sym is.heard) (passes_weaker (StirsNothing s) (AnswersNothing s Free) at piece (still_answers s) passes) in
    let free : Passes (AnswersNothing e.came.speech e.stage) at piece = subst (λ (t : Stage). Passes (AnswersNothing e.came.speech t) at piece) (sym is.free) answers in
    record {
      takes = takes_at a at piece is.meant_stands means;
      hears = passes_whole k piece false (sym is.unpinged) is.follows (ap is_between is.came_stands) (goes_by_some (AnswersNothingLate (is_calm k.late) false k.came.speech) k.came.cutter at piece is.came_stands calm);
      keeps = hears_at e piece Free is.free refl (λ hears. hears) (has_nothing e piece (goes_by_some (AnswersNothing e.came.speech e.stage) e.came.cutter at piece is.heard_stands free));
    }

-- ---- what the manager sends

pub all_goes : (quiet : Quiet) (bytes : List ℕ) → Passes (OrdersNothing true quiet.sent.speech) (from quiet.sent.order []) bytes → (a : Amender) (k : Answerer) (e : Keeper) → IsQuiet quiet a k e → GoesOut k e bytes
all_goes quiet bytes passes a k e is =
    let s : Speech = quiet.sent.speech in
    let at : Standing = from quiet.sent.order [] in
    let orders : Passes (OrdersNothing true k.sent.speech) at bytes =
    subst (λ (t : Speech). Passes (OrdersNothing true t) at bytes) (sym is.sent) passes in
    let calm : Passes (OrdersNothing (is_calm k.late) k.sent.speech) at bytes = subst (λ (b : Bool). Passes (OrdersNothing b k.sent.speech) at bytes) (sym is.calm) orders in
    let asks : Passes (AsksNothing e.sent.speech Free) at bytes =
    subst (λ (t : Speech). Passes (AsksNothing t Free) at bytes) (sym is.told) (passes_weaker (OrdersNothing true s) (AsksNothing s Free) at bytes (still_asks s) passes) in
    let free : Passes (AsksNothing e.sent.speech e.stage) at bytes = subst (λ (t : Stage). Passes (AsksNothing e.sent.speech t) at bytes) (sym is.free) asks in
    let goes = goes_by_some (AsksNothing e.sent.speech e.stage) e.sent.cutter at bytes is.told_stands free in
    record {
      tells = sends_whole k bytes is.follows (ap is_between is.sent_stands) (goes_by_some (OrdersNothing (is_calm k.late) k.sent.speech) k.sent.cutter at bytes is.sent_stands calm);
      told_is = told_by_is e bytes goes;
      sent = sent_on e bytes goes;
    }
