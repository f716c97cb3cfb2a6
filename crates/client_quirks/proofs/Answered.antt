-- Pieces and bytes of both parties, where a client's answers may come late.
use Rattle.std.proofs.Common.{◌≡◌, ℕ, List, [], ◌∷◌, ◌++◌, length, Bool, true, false, Option, Some, None, refl, sym, ap, ◌∙◌, subst, append-nil, arith}
use Rattle.std.specs.Prelude.{◌==◌, ◌&&◌, nat_lt}
use Rattle.std.proofs.lemmas.Bool.{false≢true}
use Rattle.std.proofs.lemmas.Bool.Decides.{nat_tests}
use Rattle.ice_framing.specs.Frames.{Standing, fed, cut}
use Rattle.ice_framing.specs.declared.cutting.WholeFrame.{WholeFrame}
use Rattle.ice_framing.proofs.Shapes.{joined}
use Rattle.frame_speech.specs.Speech.{speech_behind}
use Rattle.frame_speech.specs.declared.speech.Speech.{Speech}
use Rattle.late_answers.specs.Late.{is_calm, waits}
use Rattle.client_quirks.specs.Sides.{new_frames, is_between, CutsOn, GoesBy}
use Rattle.client_quirks.specs.Speech.{bytes_in}
use Rattle.client_quirks.specs.Exchange.{Exchanged, exchanged, heard_all, told_all}
use Rattle.client_quirks.specs.Answering.{client_of, manager_of, order_by, heard_by, told_by, passes_by, AnswersNothingLate, OrdersNothing, HearsFrames, HearsWhole, HearsBy, Hears, HearsPiece, HandsOn, TellsFrames, TellsWhole, TellsBy, Tells, TellsBytes, SendsOn}
use Rattle.client_quirks.specs.declared.side.Side.{Side}
use Rattle.client_quirks.specs.declared.answerer.Answerer.{Answerer}
use Rattle.client_quirks.proofs.Exchanging.{heard_passed, heard_speech_stays, told_passed, told_speech_stays}
use Rattle.client_quirks.proofs.Following.{side_grown}
use Rattle.client_quirks.proofs.Grown.{neither}
use Rattle.session_model.specs.Phases.{is_owing}

no_bytes : (bytes : List ℕ) → (length bytes == 0) ≡ true → bytes ≡ []
no_bytes [] is = refl
no_bytes (b ∷ bytes) is = absurd (grind (arith, nat_tests))

-- whole frames are the piece that brought them
pub whole_bytes : (o : Option Standing) (piece : List ℕ) → is_between o ≡ true → CutsOn o piece o → bytes_in (new_frames o piece) ≡ piece
whole_bytes None piece between cuts = absurd (false≢true between)
whole_bytes (Some cutter) piece between cuts =
    let none : cutter.held ≡ [] = no_bytes cutter.held between in
    let left : (cut (fed cutter piece)).standing.held ≡ [] = sym (ap (λ (s : Standing). s.held) cuts) ∙ none in
    sym (append-nil (bytes_in (cut (fed cutter piece)).frames))
    ∙ ap (λ (bytes : List ℕ). bytes_in (cut (fed cutter piece)).frames ++ bytes) (sym left)
    ∙ joined (fed cutter piece) ∙ ap (λ (bytes : List ℕ). bytes ++ piece) none

all_three : (a b c : Bool) → a ≡ true → b ≡ true → c ≡ true → (a && b && c) ≡ true
all_three a b c one two three = rw (one, two, three) refl

-- ---- what needn't be heard

heard_as : (k : Answerer) (piece : List ℕ) (pinged : Bool) → pinged ≡ nat_lt 0 k.late.pings → is_between k.came.cutter ≡ true → GoesBy (AnswersNothingLate (is_calm k.late) pinged k.came.speech) k.came.cutter piece → heard_by k piece ≡ exchanged piece [] k.late
heard_as k piece pinged is between goes =
    heard_passed (manager_of k) k.came.speech pinged k.late (new_frames k.came.cutter piece) is goes.frames
    ∙ ap (λ (bytes : List ℕ). exchanged bytes [] k.late) (whole_bytes k.came.cutter piece between goes.cuts)

pub passes_whole : (k : Answerer) (piece : List ℕ) (pinged : Bool) → pinged ≡ nat_lt 0 k.late.pings → k.follows ≡ true → is_between k.came.cutter ≡ true → GoesBy (AnswersNothingLate (is_calm k.late) pinged k.came.speech) k.came.cutter piece → Hears k piece (piece ∷ []) [] k
passes_whole k piece pinged is follows between goes =
    let as_is = heard_as k piece pinged is between goes in
    let whole : HearsWhole k piece (piece ∷ []) [] k = record {
      handed = append-nil piece ∙ sym (ap (λ (x : Exchanged). x.handed) as_is);
      as_came = λ all. refl;
      goes_out = sym (ap (λ (x : Exchanged). x.going) as_is);
      late = sym (ap (λ (x : Exchanged). x.late) as_is);
      came = λ stream side. side_grown stream piece k.came k.came goes.cuts (sym (heard_speech_stays (is_calm k.late) pinged k.came.speech (new_frames k.came.cutter piece) goes.frames)) side;
      sent = refl;
      sent_order = refl;
      follows = follows;
    } in
    subst (λ (b : Bool). HearsBy b k piece (piece ∷ []) [] k) (sym (all_three k.follows (is_between k.came.cutter) (is_between k.came.cutter) follows between between)) whole

pub passes_on : (k : Answerer) (piece : List ℕ) → k.follows ≡ false → Hears k piece (piece ∷ []) [] k
passes_on k piece none =
    let on_ : HandsOn k piece (piece ∷ []) [] k = record { all = refl; none = refl; late = refl; follows = none } in
    subst (λ (b : Bool). HearsBy (b && is_between k.came.cutter && is_between k.came.cutter) k piece (piece ∷ []) [] k) (sym none) on_

told_as : (k : Answerer) (bytes : List ℕ) → is_between k.sent.cutter ≡ true → GoesBy (OrdersNothing (is_calm k.late) k.sent.speech) k.sent.cutter bytes → told_by k bytes ≡ exchanged [] bytes k.late
told_as k bytes between goes =
    told_passed (client_of k) k.sent.speech k.late (new_frames k.sent.cutter bytes) goes.frames
    ∙ ap (λ (all : List ℕ). exchanged [] all k.late) (whole_bytes k.sent.cutter bytes between goes.cuts)

pub sends_whole : (k : Answerer) (bytes : List ℕ) → k.follows ≡ true → is_between k.sent.cutter ≡ true → GoesBy (OrdersNothing (is_calm k.late) k.sent.speech) k.sent.cutter bytes → Tells k bytes [] bytes k
sends_whole k bytes follows between goes =
    let as_is = told_as k bytes between goes in
    let whole : TellsWhole k bytes [] bytes k = record {
      handed = sym (ap (λ (x : Exchanged). x.handed) as_is);
      goes_out = sym (ap (λ (x : Exchanged). x.going) as_is);
      late = sym (ap (λ (x : Exchanged). x.late) as_is);
      sent = λ stream side. side_grown stream bytes k.sent k.sent goes.cuts (sym (told_speech_stays (is_calm k.late) k.sent.speech (new_frames k.sent.cutter bytes) goes.frames)) side;
      came = refl;
      came_order = refl;
      follows = follows;
    } in
    subst (λ (b : Bool). TellsBy b k bytes [] bytes k) (sym (all_three k.follows (is_between k.sent.cutter) (is_between k.sent.cutter) follows between between)) whole

pub sends_on : (k : Answerer) (bytes : List ℕ) → k.follows ≡ false → Tells k bytes [] bytes k
sends_on k bytes none =
    let on_ : SendsOn k bytes [] bytes k = record { none = refl; all = refl; late = refl; follows = none } in
    subst (λ (b : Bool). TellsBy (b && is_between k.sent.cutter && is_between k.sent.cutter) k bytes [] bytes k) (sym none) on_

-- ---- what is heard, and told

second_false : (a b c : Bool) → b ≡ false → (a && b && c) ≡ false
second_false true b c is = rw is refl
second_false false b c is = refl

third_false : (a b : Bool) → b ≡ false → (a && b) ≡ false
third_false true b is = is
third_false false b is = refl

never : (b : Bool) → b ≡ false → b ≡ true → ⊥
never b no_ yes_ = false≢true (sym no_ ∙ yes_)

pub on_lost : (old new : Answerer) (piece : List ℕ) (list : List (List ℕ)) (going : List ℕ) → old.follows ≡ false → HandsOn old piece list going new → HearsPiece old piece list going new
on_lost old new piece list going none hands = record {
  hears = subst (λ (b : Bool). HearsBy (b && is_between old.came.cutter && is_between new.came.cutter) old piece list going new) (sym none) hands;
  order = λ is. absurd (never _ (ap (λ (b : Bool). b && is_between old.came.cutter && is_between new.came.cutter) none) is);
}

pub on_within : (old new : Answerer) (piece : List ℕ) (list : List (List ℕ)) (going : List ℕ) → is_between old.came.cutter ≡ false → HandsOn old piece list going new → HearsPiece old piece list going new
on_within old new piece list going none hands =
    let no_ = second_false old.follows (is_between old.came.cutter) (is_between new.came.cutter) none in
    record { hears = subst (λ (b : Bool). HearsBy b old piece list going new) (sym no_) hands; order = λ is. absurd (never _ no_ is) }

-- a piece that ends within a frame
pub on_partly : (old new : Answerer) (side : Side) (piece : List ℕ) (list : List (List ℕ)) (going : List ℕ) → new.came ≡ side → is_between side.cutter ≡ false → HandsOn (record old { came = side }) piece list going new → HearsPiece old piece list going new
on_partly old new side piece list going is none hands =
    let on_ : HandsOn old piece list going new = record { all = hands.all; none = hands.none; late = hands.late; follows = hands.follows } in
    let no_ = third_false (old.follows && is_between old.came.cutter) (is_between new.came.cutter) (ap (λ (s : Side). is_between s.cutter) is ∙ none) in
    record { hears = subst (λ (b : Bool). HearsBy b old piece list going new) (sym no_) on_; order = λ was. absurd (never _ no_ was) }

pub on_whole : (old new : Answerer) (side : Side) (piece : List ℕ) (frames : List WholeFrame) (list : List (List ℕ)) (going : List ℕ) → old.follows ≡ true → is_between old.came.cutter ≡ true → is_between side.cutter ≡ true → side.speech ≡ old.came.speech → CutsOn old.came.cutter piece side.cutter → frames ≡ new_frames old.came.cutter piece
    → HearsFrames (record old { came = side }) piece frames list going new → HearsPiece old piece list going new
on_whole old new side piece frames list going follows was between speech cuts are hears =
    let same : heard_all (manager_of old) side.speech old.late frames ≡ heard_by old piece =
    ap (λ (s : Speech). heard_all (manager_of old) s old.late frames) speech ∙ ap (heard_all (manager_of old) old.came.speech old.late) are in
    let understood : new.came.speech ≡ speech_behind old.came.speech (new_frames old.came.cutter piece) =
    hears.speech ∙ ap (λ (s : Speech). speech_behind s frames) speech ∙ ap (speech_behind old.came.speech) are in
    let whole : HearsWhole old piece list going new = record {
      handed = hears.handed ∙ ap (λ (x : Exchanged). x.handed) same;
      as_came = λ all. hears.as_came (ap (λ (x : Exchanged). x.handed) same ∙ all);
      goes_out = hears.goes_out ∙ ap (λ (x : Exchanged). x.going) same;
      late = hears.late ∙ ap (λ (x : Exchanged). x.late) same;
      came = λ stream is. side_grown stream piece old.came new.came (subst (λ (c : Option Standing). CutsOn old.came.cutter piece c) (sym hears.cutter) cuts) understood is;
      sent = hears.sent;
      sent_order = hears.sent_order;
      follows = hears.follows ∙ follows;
    } in
    record {
      hears = subst (λ (b : Bool). HearsBy b old piece list going new) (sym (all_three old.follows (is_between old.came.cutter) (is_between new.came.cutter) follows was (ap is_between hears.cutter ∙ between))) whole;
      order = λ is. hears.order ∙ ap (order_by old.came_order) are;
    }

pub out_lost : (old new : Answerer) (bytes : List ℕ) (list : List (List ℕ)) (going : List ℕ) → old.follows ≡ false → SendsOn old bytes list going new → TellsBytes old bytes list going new
out_lost old new bytes list going none sends = record {
  tells = subst (λ (b : Bool). TellsBy (b && is_between old.sent.cutter && is_between new.sent.cutter) old bytes list going new) (sym none) sends;
  order = λ is. absurd (never _ (ap (λ (b : Bool). b && is_between old.sent.cutter && is_between new.sent.cutter) none) is);
}

pub out_within : (old new : Answerer) (bytes : List ℕ) (list : List (List ℕ)) (going : List ℕ) → is_between old.sent.cutter ≡ false → SendsOn old bytes list going new → TellsBytes old bytes list going new
out_within old new bytes list going none sends =
    let no_ = second_false old.follows (is_between old.sent.cutter) (is_between new.sent.cutter) none in
    record { tells = subst (λ (b : Bool). TellsBy b old bytes list going new) (sym no_) sends; order = λ is. absurd (never _ no_ is) }

pub out_partly : (old new : Answerer) (side : Side) (bytes : List ℕ) (list : List (List ℕ)) (going : List ℕ) → new.sent ≡ side → is_between side.cutter ≡ false → SendsOn (record old { sent = side }) bytes list going new → TellsBytes old bytes list going new
out_partly old new side bytes list going is none sends =
    let on_ : SendsOn old bytes list going new = record { none = sends.none; all = sends.all; late = sends.late; follows = sends.follows } in
    let no_ = third_false (old.follows && is_between old.sent.cutter) (is_between new.sent.cutter) (ap (λ (s : Side). is_between s.cutter) is ∙ none) in
    record { tells = subst (λ (b : Bool). TellsBy b old bytes list going new) (sym no_) on_; order = λ was. absurd (never _ no_ was) }

pub out_whole : (old new : Answerer) (side : Side) (bytes : List ℕ) (frames : List WholeFrame) (list : List (List ℕ)) (going : List ℕ) → old.follows ≡ true → is_between old.sent.cutter ≡ true → is_between side.cutter ≡ true → side.speech ≡ old.sent.speech → CutsOn old.sent.cutter bytes side.cutter → frames ≡ new_frames old.sent.cutter bytes
    → TellsFrames (record old { sent = side }) frames list going new → TellsBytes old bytes list going new
out_whole old new side bytes frames list going follows was between speech cuts are tells =
    let same : told_all (client_of old) side.speech old.late frames ≡ told_by old bytes =
    ap (λ (s : Speech). told_all (client_of old) s old.late frames) speech ∙ ap (told_all (client_of old) old.sent.speech old.late) are in
    let understood : new.sent.speech ≡ speech_behind old.sent.speech (new_frames old.sent.cutter bytes) =
    tells.speech ∙ ap (λ (s : Speech). speech_behind s frames) speech ∙ ap (speech_behind old.sent.speech) are in
    let whole : TellsWhole old bytes list going new = record {
      handed = tells.handed ∙ ap (λ (x : Exchanged). x.handed) same;
      goes_out = tells.goes_out ∙ ap (λ (x : Exchanged). x.going) same;
      late = tells.late ∙ ap (λ (x : Exchanged). x.late) same;
      sent = λ stream is. side_grown stream bytes old.sent new.sent (subst (λ (c : Option Standing). CutsOn old.sent.cutter bytes c) (sym tells.cutter) cuts) understood is;
      came = tells.came;
      came_order = tells.came_order;
      follows = tells.follows ∙ follows;
    } in
    record {
      tells = subst (λ (b : Bool). TellsBy b old bytes list going new) (sym (all_three old.follows (is_between old.sent.cutter) (is_between new.sent.cutter) follows was (ap is_between tells.cutter ∙ between))) whole;
      order = λ is. tells.order ∙ ap (order_by old.sent_order) are;
    }

-- ---- time

-- nothing is said in its place where the manager waits for no answer of it
pub passing_nothing : (follows : Bool) (milliseconds : ℕ) (k : Answerer) → (follows && waits k.late) ≡ false → passes_by follows milliseconds k ≡ []
passing_nothing false milliseconds k not_waiting = refl
passing_nothing true milliseconds k not_waiting = rw (neither (is_owing k.late.phase) (nat_lt 0 k.late.lately) not_waiting).0 refl
