-- Frames of either party, one after another, where a client's answers may come late.
use Rattle.std.proofs.Common.{◌≡◌, ℕ, ◌+◌, ◌<◌, ◌≤◌, List, [], ◌∷◌, ◌++◌, length, drop, get_or, Bool, true, false, Option, None, refl, sym, ap, ◌∙◌, append_assoc, append-nil}
use Rattle.std.specs.Prelude.{◌&&◌, ◌||◌, nat_lt, if◌then◌else◌}
use Rattle.std.specs.List.{AllByRecursion}
use Rattle.std.proofs.lemmas.Bool.{false≢true}
use Rattle.std.proofs.lemmas.List.{at_drop_all}
use Rattle.ice_framing.specs.declared.cutting.WholeFrame.{WholeFrame}
use Rattle.xsmp_messages.specs.declared.message.XsmpMessage.{XsmpMessage}
use Rattle.frame_speech.specs.Passing.{IsPassed, may_say}
use Rattle.frame_speech.specs.Settings.{may_turn}
use Rattle.frame_speech.specs.Speech.{is_whole, reading, after, speech_behind}
use Rattle.frame_speech.specs.declared.speech.Speech.{Speech}
use Rattle.frame_speech.proofs.Passed.{passed_reading}
use Rattle.frame_speech.proofs.Speeches.{on}
use Rattle.late_answers.specs.Late.{as_it_came, is_calm, passing, replied}
use Rattle.late_answers.specs.declared.late.Late.{Late}
use Rattle.late_answers.specs.declared.outcome.Outcome.{Outcome}
use Rattle.late_answers.specs.declared.outcome.Said.{Said}
use Rattle.client_quirks.specs.Speech.{bytes_in}
use Rattle.client_quirks.specs.Exchange.{Exchanged, exchanged, and_then, is_about, is_reply, message_in, tongue, said_of, said_in, told_of, told_in, handed_of, going_out, word_bytes, heard_all, told_all}
use Rattle.client_quirks.specs.Answering.{AnswersNothingLate, OrdersNothing}
use Rattle.client_quirks.specs.declared.tongue.Tongue.{Tongue}
use Rattle.client_quirks.proofs.Grown.{neither}
use Rattle.client_quirks.proofs.Unheeded.{turn_stays}

-- ---- the client's

-- The frames before the i-th were heard: what is left brings behind what they brought what all of them bring.
pub record HeardSoFar (manager : Tongue) (first : Speech) (before : Late) (frames : List WholeFrame) (front out : List ℕ) (speech : Speech) (late : Late) (handed going : List ℕ) (i : ℕ) : Type 0 where
  pub speech_is : speech_behind speech (drop i frames) ≡ speech_behind first frames
  pub late_is : (heard_all manager speech late (drop i frames)).late ≡ (heard_all manager first before frames).late
  pub handed_is : handed ++ (heard_all manager speech late (drop i frames)).handed ≡ front ++ (heard_all manager first before frames).handed
  pub going_is : going ++ (heard_all manager speech late (drop i frames)).going ≡ out ++ (heard_all manager first before frames).going

pub heard_one : (manager : Tongue) (first : Speech) (before : Late) (frames : List WholeFrame) (front out : List ℕ) (speech : Speech) (late : Late) (handed going : List ℕ) (i : ℕ) (f : WholeFrame) (next : Speech) (more : Late) (longer larger : List ℕ) → HeardSoFar manager first before frames front out speech late handed going i → i < length frames → f ≡ get_or frames i f
    → next ≡ after speech (reading speech f) → more ≡ (said_in speech f late).late → longer ≡ handed ++ handed_of (tongue speech f.endian) (said_in speech f late) f.bytes → larger ≡ going ++ going_out manager (said_in speech f late).outgoing [] (said_in speech f late).late
    → HeardSoFar manager first before frames front out next more longer larger (i + 1)
heard_one manager first before frames front out speech late handed going i f next more longer larger so_far there is goes knows hands sends =
    let rest = drop (i + 1) frames in
    let then_ : heard_all manager next more rest ≡ heard_all manager (after speech (reading speech f)) (said_in speech f late).late rest =
    ap (λ (s : Speech). heard_all manager s more rest) goes ∙ ap (λ (l : Late). heard_all manager (after speech (reading speech f)) l rest) knows in
    record {
      speech_is = ap (λ (s : Speech). speech_behind s rest) goes ∙ on (speech_behind speech) frames i f there is ∙ so_far.speech_is;
      late_is =
          ap (λ (x : Exchanged). x.late) then_ ∙ on (λ (fs : List WholeFrame). (heard_all manager speech late fs).late) frames i f there is ∙ so_far.late_is;
      handed_is =
          ap (λ (x : Exchanged). longer ++ x.handed) then_
          ∙ ap (λ (bytes : List ℕ). bytes ++ (heard_all manager (after speech (reading speech f)) (said_in speech f late).late rest).handed) hands
          ∙ append_assoc handed (handed_of (tongue speech f.endian) (said_in speech f late) f.bytes) (heard_all manager (after speech (reading speech f)) (said_in speech f late).late rest).handed
          ∙ ap (λ (bytes : List ℕ). handed ++ bytes) (on (λ (fs : List WholeFrame). (heard_all manager speech late fs).handed) frames i f there is)
          ∙ so_far.handed_is;
      going_is =
          ap (λ (x : Exchanged). larger ++ x.going) then_
          ∙ ap (λ (bytes : List ℕ). bytes ++ (heard_all manager (after speech (reading speech f)) (said_in speech f late).late rest).going) sends
          ∙ append_assoc going (going_out manager (said_in speech f late).outgoing [] (said_in speech f late).late) (heard_all manager (after speech (reading speech f)) (said_in speech f late).late rest).going
          ∙ ap (λ (bytes : List ℕ). going ++ bytes) (on (λ (fs : List WholeFrame). (heard_all manager speech late fs).going) frames i f there is)
          ∙ so_far.going_is;
    }

-- all of them were heard
pub record HeardEvery (manager : Tongue) (first : Speech) (before : Late) (frames : List WholeFrame) (front out : List ℕ) (speech : Speech) (late : Late) (handed going : List ℕ) : Type 0 where
  pub speech_is : speech ≡ speech_behind first frames
  pub late_is : late ≡ (heard_all manager first before frames).late
  pub handed_is : handed ≡ front ++ (heard_all manager first before frames).handed
  pub going_is : going ≡ out ++ (heard_all manager first before frames).going

pub heard_every : (manager : Tongue) (first : Speech) (before : Late) (frames : List WholeFrame) (front out : List ℕ) (speech : Speech) (late : Late) (handed going : List ℕ) (i : ℕ) → HeardSoFar manager first before frames front out speech late handed going i → length frames ≤ i → HeardEvery manager first before frames front out speech late handed going
heard_every manager first before frames front out speech late handed going i so_far over = record {
  speech_is = sym (at_drop_all (speech_behind speech) frames i over) ∙ so_far.speech_is;
  late_is = sym (at_drop_all (λ (fs : List WholeFrame). (heard_all manager speech late fs).late) frames i over) ∙ so_far.late_is;
  handed_is =
      sym (append-nil handed) ∙ ap (λ (bytes : List ℕ). handed ++ bytes) (sym (at_drop_all (λ (fs : List WholeFrame). (heard_all manager speech late fs).handed) frames i over)) ∙ so_far.handed_is;
  going_is =
      sym (append-nil going) ∙ ap (λ (bytes : List ℕ). going ++ bytes) (sym (at_drop_all (λ (fs : List WholeFrame). (heard_all manager speech late fs).going) frames i over)) ∙ so_far.going_is;
}

-- ---- the manager's

pub record ToldSoFar (client : Tongue) (first : Speech) (before : Late) (frames : List WholeFrame) (front out : List ℕ) (speech : Speech) (late : Late) (handed going : List ℕ) (i : ℕ) : Type 0 where
  pub speech_is : speech_behind speech (drop i frames) ≡ speech_behind first frames
  pub late_is : (told_all client speech late (drop i frames)).late ≡ (told_all client first before frames).late
  pub handed_is : handed ++ (told_all client speech late (drop i frames)).handed ≡ front ++ (told_all client first before frames).handed
  pub going_is : going ++ (told_all client speech late (drop i frames)).going ≡ out ++ (told_all client first before frames).going

pub told_one : (client : Tongue) (first : Speech) (before : Late) (frames : List WholeFrame) (front out : List ℕ) (speech : Speech) (late : Late) (handed going : List ℕ) (i : ℕ) (f : WholeFrame) (next : Speech) (more : Late) (longer larger : List ℕ) → ToldSoFar client first before frames front out speech late handed going i → i < length frames → f ≡ get_or frames i f
    → next ≡ after speech (reading speech f) → more ≡ (told_in speech f late).late → longer ≡ handed ++ word_bytes client (told_in speech f late).word → larger ≡ going ++ going_out (tongue speech f.endian) (told_in speech f late).outgoing f.bytes (told_in speech f late).late
    → ToldSoFar client first before frames front out next more longer larger (i + 1)
told_one client first before frames front out speech late handed going i f next more longer larger so_far there is goes knows hands sends =
    let rest = drop (i + 1) frames in
    let then_ : told_all client next more rest ≡ told_all client (after speech (reading speech f)) (told_in speech f late).late rest =
    ap (λ (s : Speech). told_all client s more rest) goes ∙ ap (λ (l : Late). told_all client (after speech (reading speech f)) l rest) knows in
    record {
      speech_is = ap (λ (s : Speech). speech_behind s rest) goes ∙ on (speech_behind speech) frames i f there is ∙ so_far.speech_is;
      late_is =
          ap (λ (x : Exchanged). x.late) then_ ∙ on (λ (fs : List WholeFrame). (told_all client speech late fs).late) frames i f there is ∙ so_far.late_is;
      handed_is =
          ap (λ (x : Exchanged). longer ++ x.handed) then_
          ∙ ap (λ (bytes : List ℕ). bytes ++ (told_all client (after speech (reading speech f)) (told_in speech f late).late rest).handed) hands
          ∙ append_assoc handed (word_bytes client (told_in speech f late).word) (told_all client (after speech (reading speech f)) (told_in speech f late).late rest).handed
          ∙ ap (λ (bytes : List ℕ). handed ++ bytes) (on (λ (fs : List WholeFrame). (told_all client speech late fs).handed) frames i f there is)
          ∙ so_far.handed_is;
      going_is =
          ap (λ (x : Exchanged). larger ++ x.going) then_
          ∙ ap (λ (bytes : List ℕ). bytes ++ (told_all client (after speech (reading speech f)) (told_in speech f late).late rest).going) sends
          ∙ append_assoc going (going_out (tongue speech f.endian) (told_in speech f late).outgoing f.bytes (told_in speech f late).late) (told_all client (after speech (reading speech f)) (told_in speech f late).late rest).going
          ∙ ap (λ (bytes : List ℕ). going ++ bytes) (on (λ (fs : List WholeFrame). (told_all client speech late fs).going) frames i f there is)
          ∙ so_far.going_is;
    }

pub record ToldEvery (client : Tongue) (first : Speech) (before : Late) (frames : List WholeFrame) (front out : List ℕ) (speech : Speech) (late : Late) (handed going : List ℕ) : Type 0 where
  pub speech_is : speech ≡ speech_behind first frames
  pub late_is : late ≡ (told_all client first before frames).late
  pub handed_is : handed ≡ front ++ (told_all client first before frames).handed
  pub going_is : going ≡ out ++ (told_all client first before frames).going

pub told_every : (client : Tongue) (first : Speech) (before : Late) (frames : List WholeFrame) (front out : List ℕ) (speech : Speech) (late : Late) (handed going : List ℕ) (i : ℕ) → ToldSoFar client first before frames front out speech late handed going i → length frames ≤ i → ToldEvery client first before frames front out speech late handed going
told_every client first before frames front out speech late handed going i so_far over = record {
  speech_is = sym (at_drop_all (speech_behind speech) frames i over) ∙ so_far.speech_is;
  late_is = sym (at_drop_all (λ (fs : List WholeFrame). (told_all client speech late fs).late) frames i over) ∙ so_far.late_is;
  handed_is =
      sym (append-nil handed) ∙ ap (λ (bytes : List ℕ). handed ++ bytes) (sym (at_drop_all (λ (fs : List WholeFrame). (told_all client speech late fs).handed) frames i over)) ∙ so_far.handed_is;
  going_is =
      sym (append-nil going) ∙ ap (λ (bytes : List ℕ). going ++ bytes) (sym (at_drop_all (λ (fs : List WholeFrame). (told_all client speech late fs).going) frames i over)) ∙ so_far.going_is;
}

-- ---- frames that are passed over

and_false : (a b : Bool) → b ≡ false → (a && b) ≡ false
and_false true b is = is
and_false false b is = refl

unread : (calm : Bool) (s : Speech) (f : WholeFrame) → is_about calm s f.bytes ≡ false → message_in calm s f ≡ None
unread calm s f none = rw (and_false (is_whole f) (is_about calm s f.bytes) none) refl

reply_passes : (r b : Bool) (l : Late) → b ≡ nat_lt 0 l.pings → (b && r) ≡ false → (if r then replied l else passing l) ≡ passing l
reply_passes false b l is none = refl
reply_passes true true l is none = absurd (false≢true (sym none))
reply_passes true false l is none = rw (sym is) refl

said_passed : (s : Speech) (b : Bool) (f : WholeFrame) (l : Late) → b ≡ nat_lt 0 l.pings → IsPassed (AnswersNothingLate (is_calm l) b s) f → said_in s f l ≡ passing l
said_passed s b f l is passed =
    let both = neither (may_turn s f) (is_about (is_calm l) s f.bytes || b && is_reply s f.bytes) passed.1 in
    let others = neither (is_about (is_calm l) s f.bytes) (b && is_reply s f.bytes) both.1 in
    ap (λ (o : Option XsmpMessage). if is_reply s f.bytes then replied l else said_of o l) (unread (is_calm l) s f others.0)
    ∙ reply_passes (is_reply s f.bytes) b l is others.1

heard_stays : (calm b : Bool) (s : Speech) (f : WholeFrame) → IsPassed (AnswersNothingLate calm b s) f → after s (reading s f) ≡ s
heard_stays calm b s f passed = turn_stays s f passed.0 (neither (may_turn s f) (is_about calm s f.bytes || b && is_reply s f.bytes) passed.1).0

-- They are handed on as they came, and nothing goes out.
pub heard_passed : (manager : Tongue) (s : Speech) (b : Bool) (l : Late) (fs : List WholeFrame) → b ≡ nat_lt 0 l.pings → AllByRecursion (IsPassed (AnswersNothingLate (is_calm l) b s)) fs → heard_all manager s l fs ≡ exchanged (bytes_in fs) [] l
heard_passed manager s b l [] is all = refl
heard_passed manager s b l (f ∷ fs) is all =
    ap (λ (x : Said). and_then (handed_of (tongue s f.endian) x f.bytes) (going_out manager x.outgoing [] x.late) (heard_all manager (after s (reading s f)) x.late fs)) (said_passed s b f l is all.0)
    ∙ ap (λ (t : Speech). and_then f.bytes [] (heard_all manager t l fs)) (heard_stays (is_calm l) b s f all.0)
    ∙ ap (and_then f.bytes []) (heard_passed manager s b l fs is all.1)

pub heard_speech_stays : (calm b : Bool) (s : Speech) (fs : List WholeFrame) → AllByRecursion (IsPassed (AnswersNothingLate calm b s)) fs → speech_behind s fs ≡ s
heard_speech_stays calm b s [] all = refl
heard_speech_stays calm b s (f ∷ fs) all = ap (λ (t : Speech). speech_behind t fs) (heard_stays calm b s f all.0) ∙ heard_speech_stays calm b s fs all.1

told_stays : (calm : Bool) (s : Speech) (f : WholeFrame) → IsPassed (OrdersNothing calm s) f → after s (reading s f) ≡ s
told_stays calm s f passed = ap (after s) (passed_reading s f (passed.0, (neither (may_say s f) (is_about calm s f.bytes) passed.1).0))

told_passed_one : (s : Speech) (f : WholeFrame) (l : Late) → IsPassed (OrdersNothing (is_calm l) s) f → told_in s f l ≡ as_it_came l
told_passed_one s f l passed = ap (λ (o : Option XsmpMessage). told_of o l) (unread (is_calm l) s f (neither (may_say s f) (is_about (is_calm l) s f.bytes) passed.1).1)

-- They go out as they came, and the manager hears nothing.
pub told_passed : (client : Tongue) (s : Speech) (l : Late) (fs : List WholeFrame) → AllByRecursion (IsPassed (OrdersNothing (is_calm l) s)) fs → told_all client s l fs ≡ exchanged [] (bytes_in fs) l
told_passed client s l [] all = refl
told_passed client s l (f ∷ fs) all =
    ap (λ (x : Outcome). and_then (word_bytes client x.word) (going_out (tongue s f.endian) x.outgoing f.bytes x.late) (told_all client (after s (reading s f)) x.late fs)) (told_passed_one s f l all.0)
    ∙ ap (λ (t : Speech). and_then [] f.bytes (told_all client t l fs)) (told_stays (is_calm l) s f all.0)
    ∙ ap (and_then [] f.bytes) (told_passed client s l fs all.1)

pub told_speech_stays : (calm : Bool) (s : Speech) (fs : List WholeFrame) → AllByRecursion (IsPassed (OrdersNothing calm s)) fs → speech_behind s fs ≡ s
told_speech_stays calm s [] all = refl
told_speech_stays calm s (f ∷ fs) all = ap (λ (t : Speech). speech_behind t fs) (told_stays calm s f all.0) ∙ told_speech_stays calm s fs all.1
