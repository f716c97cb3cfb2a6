-- Frames that are passed over, one after another.
use Rattle.std.proofs.Common.{◌≡◌, ℕ, List, [], ◌∷◌, Bool, true, false, Option, Some, None, refl, sym, ap, ◌∙◌, subst}
use Rattle.std.specs.Prelude.{◌==◌, ◌&&◌, ◌||◌, if◌then◌else◌, slice_index}
use Rattle.std.specs.List.{AllByRecursion}
use Rattle.std.proofs.lemmas.Bool.{false≢true}
use Rattle.ice_framing.specs.Frames.{Standing}
use Rattle.ice_framing.specs.declared.cutting.WholeFrame.{WholeFrame}
use Rattle.frame_speech.specs.Settings.{set_in, may_turn}
use Rattle.frame_speech.specs.Speech.{is_whole, reading, reading_of, after, says, speech_behind}
use Rattle.frame_speech.specs.Passing.{IsPassed, Passes, SaysNothing, may_say}
use Rattle.frame_speech.proofs.Passed.{passed_reading}
use Rattle.frame_speech.proofs.Walked.{turns_not, whole_reading}
use Rattle.client_quirks.specs.Speech.{is_changed, are_changed}
use Rattle.client_quirks.specs.Sides.{GoesBy}
use Rattle.client_quirks.specs.Leaving.{Mark, mark, heard, told, answered_by, closing, is_last, asked_by, over, mark_heard, mark_told, heard_behind, told_behind}
use Rattle.client_quirks.specs.Heeding.{is_meant_anew, MeansNothing, AnswersNothing, AsksNothing, is_answer, is_logout, is_turn}
use Rattle.client_quirks.proofs.Grown.{neither}
use Rattle.frame_speech.specs.declared.speech.Speech.{Speech}
use Rattle.frame_speech.specs.declared.reading.Reading.{Reading}
use Rattle.frame_speech.specs.declared.reading.Reading.TheVariants.{Nothing, Greets, Opens, Sets, Unread}
use Rattle.client_quirks.specs.declared.stage.Stage.{Stage}
use Rattle.client_quirks.specs.declared.stage.Stage.TheVariants.{Free, Asked, Answered, Kept, Released}

-- where no rule applies to what is set, it isn't changed
unchanged : (f : WholeFrame) (r : Reading) → is_meant_anew (set_in r) ≡ false → is_changed f r ≡ false
unchanged f (Sets properties) is = rw is refl
unchanged f Nothing is = refl
unchanged f Greets is = refl
unchanged f (Opens opcode) is = refl
unchanged f Unread is = refl

pub turn_stays : (s : Speech) (f : WholeFrame) → is_whole f ≡ true → may_turn s f ≡ false → after s (reading s f) ≡ s
turn_stays s f whole turns = ap (after s) (whole_reading s f whole) ∙ turns_not s f turns

meant_speech : (s : Speech) (f : WholeFrame) → IsPassed (MeansNothing s) f → after s (reading s f) ≡ s
meant_speech s f passed = turn_stays s f passed.0 (neither (may_turn s f) (is_meant_anew (set_in (reading_of s f))) passed.1).0

meant_unchanged : (s : Speech) (f : WholeFrame) → IsPassed (MeansNothing s) f → is_changed f (reading s f) ≡ false
meant_unchanged s f passed =
    ap (is_changed f) (whole_reading s f passed.0)
    ∙ unchanged f (reading_of s f) (neither (may_turn s f) (is_meant_anew (set_in (reading_of s f))) passed.1).1

pub passed_changed : (s : Speech) (fs : List WholeFrame) → AllByRecursion (IsPassed (MeansNothing s)) fs → are_changed s fs ≡ false
passed_changed s [] all = refl
passed_changed s (f ∷ fs) all =
    ap (λ (b : Bool). b || are_changed (after s (reading s f)) fs) (meant_unchanged s f all.0)
    ∙ ap (λ (t : Speech). are_changed t fs) (meant_speech s f all.0) ∙ passed_changed s fs all.1

pub passed_speech : (s : Speech) (fs : List WholeFrame) → AllByRecursion (IsPassed (MeansNothing s)) fs → speech_behind s fs ≡ s
passed_speech s [] all = refl
passed_speech s (f ∷ fs) all = ap (λ (t : Speech). speech_behind t fs) (meant_speech s f all.0) ∙ passed_speech s fs all.1

-- ---- one party's stream

pub goes_by_some : (ignores : WholeFrame → Type 0) (cutter : Option Standing) (at : Standing) (piece : List ℕ) → cutter ≡ Some at → Passes ignores at piece → GoesBy ignores cutter piece
goes_by_some ignores cutter at piece some passes =
    let goes : GoesBy ignores (Some at) piece = record { cuts = sym passes.stands; frames = passes.frames } in
    subst (λ (o : Option Standing). GoesBy ignores o piece) (sym some) goes

pub goes_by_none : (ignores : WholeFrame → Type 0) (cutter : Option Standing) (piece : List ℕ) → cutter ≡ None → GoesBy ignores cutter piece
goes_by_none ignores cutter piece none =
    let goes : GoesBy ignores None piece = record { cuts = refl; frames = tt } in
    subst (λ (o : Option Standing). GoesBy ignores o piece) (sym none) goes

-- ---- the stage of a logout

same_mark : (s next : Speech) (t to : Stage) → next ≡ s → to ≡ t → mark next to ≡ mark s t
same_mark s next t to goes stays = ap (λ (x : Speech). mark x to) goes ∙ ap (λ (y : Stage). mark s y) stays

speech_stays : (s : Speech) (f : WholeFrame) → IsPassed (SaysNothing s) f → after s (reading s f) ≡ s
speech_stays s f passed = ap (after s) (passed_reading s f passed)

free_unanswered : (a b : Bool) → (if a then Free else if b then Free else Free) ≡ Free
free_unanswered true b = refl
free_unanswered false true = refl
free_unanswered false false = refl

unanswered : (a b : Bool) (x y t : Stage) → (a || b) ≡ false → (if a then x else if b then y else t) ≡ t
unanswered a b x y t none = let both = neither a b none in rw (both.0, both.1) refl

heard_same : (s : Speech) (t : Stage) (f : WholeFrame) → IsPassed (AnswersNothing s t) f → mark_heard (mark s t) f ≡ mark s t
heard_same s Free f passed = same_mark s (after s (reading s f)) Free (heard s Free f) (turn_stays s f passed.0 passed.1) (free_unanswered (says s 8 f.bytes) (says s 11 f.bytes))
heard_same s Asked f passed =
    let both = neither (may_turn s f) (is_answer s f.bytes) passed.1 in
    same_mark s (after s (reading s f)) Asked (heard s Asked f) (turn_stays s f passed.0 both.0) (unanswered (says s 8 f.bytes) (says s 11 f.bytes) (answered_by f Asked) (closing Asked) Asked both.1)
heard_same s Answered f passed =
    let both = neither (may_turn s f) (is_answer s f.bytes) passed.1 in
    same_mark s (after s (reading s f)) Answered (heard s Answered f) (turn_stays s f passed.0 both.0) (unanswered (says s 8 f.bytes) (says s 11 f.bytes) (answered_by f Answered) (closing Answered) Answered both.1)
heard_same s Kept f passed =
    let both = neither (may_turn s f) (is_answer s f.bytes) passed.1 in
    same_mark s (after s (reading s f)) Kept (heard s Kept f) (turn_stays s f passed.0 both.0) (unanswered (says s 8 f.bytes) (says s 11 f.bytes) (answered_by f Kept) (closing Kept) Kept both.1)
heard_same s Released f passed =
    let both = neither (may_turn s f) (is_answer s f.bytes) passed.1 in
    same_mark s (after s (reading s f)) Released (heard s Released f) (turn_stays s f passed.0 both.0) (unanswered (says s 8 f.bytes) (says s 11 f.bytes) (answered_by f Released) (closing Released) Released both.1)

pub heard_nothing : (s : Speech) (t : Stage) (fs : List WholeFrame) → AllByRecursion (IsPassed (AnswersNothing s t)) fs → heard_behind (mark s t) fs ≡ mark s t
heard_nothing s t [] all = refl
heard_nothing s t (f ∷ fs) all = ap (λ (m : Mark). heard_behind m fs) (heard_same s t f all.0) ∙ heard_nothing s t fs all.1

free_unasked : (a b c : Bool) → (a && b) ≡ false → (if a then (if b then Asked else Free) else if c then Free else Free) ≡ Free
free_unasked true true c none = absurd (false≢true (sym none))
free_unasked true false c none = refl
free_unasked false b true none = refl
free_unasked false b false none = refl

-- by whether it is asked, and whether a logout ends
unturned : (a b c d : Bool) (x y t : Stage) → (a || (b || (c || d))) ≡ false → (if a then x else if b || c || d then y else t) ≡ t
unturned a b c d x y t none =
    let one = neither a (b || (c || d)) none in
    let two = neither b (c || d) one.1 in
    let three = neither c d two.1 in
    rw (one.0, two.0, three.0, three.1) refl

told_same : (s : Speech) (t : Stage) (f : WholeFrame) → IsPassed (AsksNothing s t) f → mark_told (mark s t) f ≡ mark s t
told_same s Free f passed =
    let both = neither (may_say s f) (is_logout s f.bytes) passed.1 in
    same_mark s (after s (reading s f)) Free (told s Free f) (speech_stays s f (passed.0, both.0)) (free_unasked (says s 3 f.bytes) (slice_index f.bytes 9 == 1) (is_last s f) both.1)
told_same s Asked f passed =
    let both = neither (may_say s f) (is_turn s f.bytes) passed.1 in
    same_mark s (after s (reading s f)) Asked (told s Asked f) (speech_stays s f (passed.0, both.0)) (unturned (says s 3 f.bytes) (says s 9 f.bytes) (says s 10 f.bytes) (says s 18 f.bytes) (asked_by f Asked) (over Asked) Asked both.1)
told_same s Answered f passed =
    let both = neither (may_say s f) (is_turn s f.bytes) passed.1 in
    same_mark s (after s (reading s f)) Answered (told s Answered f) (speech_stays s f (passed.0, both.0)) (unturned (says s 3 f.bytes) (says s 9 f.bytes) (says s 10 f.bytes) (says s 18 f.bytes) (asked_by f Answered) (over Answered) Answered both.1)
told_same s Kept f passed =
    let both = neither (may_say s f) (is_turn s f.bytes) passed.1 in
    same_mark s (after s (reading s f)) Kept (told s Kept f) (speech_stays s f (passed.0, both.0)) (unturned (says s 3 f.bytes) (says s 9 f.bytes) (says s 10 f.bytes) (says s 18 f.bytes) (asked_by f Kept) (over Kept) Kept both.1)
told_same s Released f passed =
    let both = neither (may_say s f) (is_turn s f.bytes) passed.1 in
    same_mark s (after s (reading s f)) Released (told s Released f) (speech_stays s f (passed.0, both.0)) (unturned (says s 3 f.bytes) (says s 9 f.bytes) (says s 10 f.bytes) (says s 18 f.bytes) (asked_by f Released) (over Released) Released both.1)

pub told_nothing : (s : Speech) (t : Stage) (fs : List WholeFrame) → AllByRecursion (IsPassed (AsksNothing s t)) fs → told_behind (mark s t) fs ≡ mark s t
told_nothing s t [] all = refl
told_nothing s t (f ∷ fs) all = ap (λ (m : Mark). told_behind m fs) (told_same s t f all.0) ∙ told_nothing s t fs all.1
