-- Of leavers.
use Rattle.std.proofs.Common.{◌≡◌, ℕ, ◌+◌, ◌-◌, ◌<◌, ◌≤◌, List, [], ◌∷◌, length, Bool, true, false, Option, Some, refl, sym, subst, arith}
use Rattle.std.specs.Prelude.{◌==◌, ◌||◌, if◌then◌else◌}
use Rattle.std.proofs.lemmas.Bool.{false≢true}
use Rattle.ice_values.specs.declared.saves.SaveKind.{SaveKind}
use Rattle.ice_values.specs.declared.saves.SaveStyle.{SaveStyle}
use Rattle.xsmp_messages.specs.declared.message.XsmpMessage.{XsmpMessage}
use Rattle.xsmp_messages.specs.declared.message.XsmpMessage.TheVariants.{Interact, SaveComplete, SaveYourself, SaveYourselfPhase2, ShutdownCancelled}
use Rattle.round_agreement.specs.declared.wanted.Wanted.{Wanted}
use Rattle.session_model.specs.Phases.{cancelled_phase, is_asked, is_bound, is_member, phase_given}
use Rattle.session_model.specs.declared.phase.Phase.{Phase}
use Rattle.session_model.specs.declared.phase.Phase.TheVariants.{Asked, AskedTwo, Done, Idle, Interacting, InteractingTwo, Owing, Saving, SavingTwo, WantsTwo}
use Rattle.late_answers.specs.Late.{is_done}
use Rattle.late_answers.specs.Leavers.{call_of, messages_of, line_due, line_completed, request_at, late_parting, leaver_at_first, stay_answered, stay_behind, stay_called_off, stay_completed, stay_due, leaver_told, leaver_due, leaver_known, leaver_later, leaver_passed, leaver_waits, parting, is_asking, is_over}
use Rattle.late_answers.specs.LeaverLaws.{comes, all_placed, is_idle_phase, wants_two, stands, rank, leaver_behind, LeaversHaveTheirPlace, LeaversGoOn, LeaversEnd}
use Rattle.late_answers.specs.Laws.{time_in}
use Rattle.late_answers.specs.declared.leaver.Stay.{Stay}
use Rattle.late_answers.specs.declared.leaver.Stay.TheVariants.{Leaving, Waiting, Unasked, Unsaved, Saved, Asking, Expected, Over}
use Rattle.late_answers.specs.declared.leaver.Leaver.{Leaver}
use Rattle.late_answers.specs.declared.leaver.Parting.{Parting}
use Rattle.late_answers.specs.declared.leaver.Line.TheVariants.{FailedAndAsks, Nothing}
use Rattle.late_answers.specs.declared.leaver.Call.{Call}
use Rattle.late_answers.specs.declared.leaver.Call.TheVariants.{Saves, Talks, CallsOff, Completes, Ends, Else}
use Rattle.late_answers.proofs.Plain.{above, some_of}

-- ---- what is said in its place

saves_placed : (kind : SaveKind) (shutdown : Bool) (style : SaveStyle) (fast : Bool) (g : Leaver) (wanted : Option Wanted) (phase : Option Phase) → is_idle_phase phase ≡ true → all_placed wanted (phase_given (SaveYourself kind shutdown style fast) phase) (messages_of (leaver_told (SaveYourself kind shutdown style fast) g).line) ≡ true
saves_placed kind shutdown style fast g wanted (Some Idle) is = refl
saves_placed kind shutdown style fast g wanted phase is = absurd (false≢true is)

second_placed : (g : Leaver) (wanted : Option Wanted) (phase : Option Phase) → wants_two phase ≡ true → all_placed wanted (phase_given SaveYourselfPhase2 phase) (messages_of (leaver_told SaveYourselfPhase2 g).line) ≡ true
second_placed g wanted (Some WantsTwo) is = refl
second_placed g wanted phase is = absurd (false≢true is)

talks_placed : (g : Leaver) (wanted : Option Wanted) (phase : Option Phase) → is_asked phase ≡ true → all_placed wanted (phase_given Interact phase) (messages_of (leaver_told Interact g).line) ≡ true
talks_placed g wanted (Some Asked) is = refl
talks_placed g wanted (Some AskedTwo) is = refl
talks_placed g wanted phase is = absurd (false≢true is)

bound_behind : (phase : Option Phase) → is_member phase ≡ true → is_bound (cancelled_phase phase) ≡ true
bound_behind (Some Saving) is = refl
bound_behind (Some SavingTwo) is = refl
bound_behind (Some Asked) is = refl
bound_behind (Some AskedTwo) is = refl
bound_behind (Some Interacting) is = refl
bound_behind (Some InteractingTwo) is = refl
bound_behind (Some WantsTwo) is = refl
bound_behind (Some Done) is = refl
bound_behind phase is = absurd (false≢true is)

-- who waited for its turn owes its answer then
waiting_placed : (wanted : Option Wanted) (phase : Option Phase) → (is_asked phase || wants_two phase) ≡ true → all_placed wanted (cancelled_phase phase) (messages_of FailedAndAsks) ≡ true
waiting_placed wanted (Some Asked) is = refl
waiting_placed wanted (Some AskedTwo) is = refl
waiting_placed wanted (Some WantsTwo) is = refl
waiting_placed wanted phase is = absurd (false≢true is)

request_placed : (stay : Stay) (wanted : Option Wanted) (phase : Option Phase) → stands stay phase ≡ true → is_bound (cancelled_phase phase) ≡ true → all_placed wanted (cancelled_phase phase) (messages_of (request_at stay)) ≡ true
request_placed Leaving wanted phase stood is = rw is refl
request_placed Waiting wanted phase stood is = waiting_placed wanted phase stood
request_placed Unasked wanted phase stood is = rw is refl
request_placed Unsaved wanted phase stood is = rw is refl
request_placed Saved wanted phase stood is = refl
request_placed Asking wanted phase stood is = refl
request_placed Expected wanted phase stood is = refl
request_placed Over wanted phase stood is = refl

failed_placed : (wanted : Option Wanted) (phase : Option Phase) → is_done phase ≡ true → all_placed wanted (phase_given SaveComplete phase) (messages_of (line_completed Unasked)) ≡ true
failed_placed wanted (Some Done) is = refl
failed_placed wanted phase is = absurd (false≢true is)

completed_placed : (stay : Stay) (wanted : Option Wanted) (phase : Option Phase) → stands stay phase ≡ true → all_placed wanted (phase_given SaveComplete phase) (messages_of (line_completed stay)) ≡ true
completed_placed Unasked wanted phase stood = failed_placed wanted phase stood
completed_placed stay wanted phase stood = refl

told_placed : (m : XsmpMessage) (g : Leaver) (wanted : Option Wanted) (phase : Option Phase) → stands g.stay phase ≡ true → comes m phase ≡ true → all_placed wanted (phase_given m phase) (messages_of (leaver_told m g).line) ≡ true
told_placed (SaveYourself kind shutdown style fast) g wanted phase stood comes_ = saves_placed kind shutdown style fast g wanted phase comes_
told_placed SaveYourselfPhase2 g wanted phase stood comes_ = second_placed g wanted phase comes_
told_placed Interact g wanted phase stood comes_ = talks_placed g wanted phase comes_
told_placed ShutdownCancelled g wanted phase stood comes_ = request_placed g.stay wanted phase stood (bound_behind phase comes_)
told_placed SaveComplete g wanted phase stood comes_ = completed_placed g.stay wanted phase stood
told_placed m g wanted phase stood comes_ = refl

late_placed : (wanted : Option Wanted) (phase : Option Phase) → all_placed wanted phase (messages_of (late_parting phase).line) ≡ true
late_placed wanted (Some Idle) = refl
late_placed wanted (Some Owing) = refl
late_placed wanted (Some Saving) = refl
late_placed wanted (Some SavingTwo) = refl
late_placed wanted (Some Interacting) = refl
late_placed wanted (Some InteractingTwo) = refl
late_placed wanted (Some Done) = refl
late_placed wanted phase = refl

left_placed : (gone : Bool) (wanted : Option Wanted) (phase : Option Phase) → all_placed wanted phase (messages_of (if gone then late_parting phase else parting Nothing leaver_at_first).line) ≡ true
left_placed true wanted phase = late_placed wanted phase
left_placed false wanted phase = refl

due_placed : (stay : Stay) (wanted : Option Wanted) (phase : Option Phase) → is_bound phase ≡ true → all_placed wanted phase (messages_of (line_due stay)) ≡ true
due_placed Leaving wanted phase is = refl
due_placed Waiting wanted phase is = refl
due_placed Unasked wanted phase is = refl
due_placed Unsaved wanted phase is = refl
due_placed Saved wanted phase is = rw is refl
due_placed Asking wanted phase is = refl
due_placed Expected wanted phase is = refl
due_placed Over wanted phase is = refl

pub either : {A : Type 0} (P : A → Type 0) (b : Bool) (x y : A) → P x → P y → P (if b then x else y)
either P true x y one two = one
either P false x y one two = two

-- whatever holds of what time brings
pub of_time : (P : Parting → Type 0) (n : ℕ) (g : Leaver) → P (leaver_due (leaver_later n g)) → P (parting Nothing (leaver_later n g)) → P (parting Nothing g) → P (leaver_passed n g)
of_time P n g due later same =
    either P (leaver_waits g) (if g.left - n == 0 then leaver_due (leaver_later n g) else parting Nothing (leaver_later n g)) (parting Nothing g)
    (either P (g.left - n == 0) (leaver_due (leaver_later n g)) (parting Nothing (leaver_later n g)) due later) same

pub leavers_have_their_place : LeaversHaveTheirPlace
leavers_have_their_place = record {
  left = λ l wanted. left_placed l.gone wanted l.phase;
  told = told_placed;
  passed = λ n g wanted phase is. of_time (λ (h : Parting). all_placed wanted phase (messages_of h.line) ≡ true) n g (due_placed g.stay wanted phase is) refl refl;
}

-- ---- one start

answered_on : (stay : Stay) → rank stay ≤ rank (stay_answered stay)
answered_on Leaving = omega arith
answered_on Waiting = omega arith
answered_on Unasked = omega arith
answered_on Unsaved = omega arith
answered_on Saved = omega arith
answered_on Asking = omega arith
answered_on Expected = omega arith
answered_on Over = omega arith

off_on : (stay : Stay) → rank stay ≤ rank (stay_called_off stay)
off_on Leaving = omega arith
off_on Waiting = omega arith
off_on Unasked = omega arith
off_on Unsaved = omega arith
off_on Saved = omega arith
off_on Asking = omega arith
off_on Expected = omega arith
off_on Over = omega arith

completed_on : (stay : Stay) → rank stay ≤ rank (stay_completed stay)
completed_on Leaving = omega arith
completed_on Waiting = omega arith
completed_on Unasked = omega arith
completed_on Unsaved = omega arith
completed_on Saved = omega arith
completed_on Asking = omega arith
completed_on Expected = omega arith
completed_on Over = omega arith

at_most_over : (stay : Stay) → rank stay ≤ 5
at_most_over Leaving = omega arith
at_most_over Waiting = omega arith
at_most_over Unasked = omega arith
at_most_over Unsaved = omega arith
at_most_over Saved = omega arith
at_most_over Asking = omega arith
at_most_over Expected = omega arith
at_most_over Over = omega arith

due_on : (stay : Stay) → rank stay ≤ rank (stay_due stay)
due_on Leaving = omega arith
due_on Waiting = omega arith
due_on Unasked = omega arith
due_on Unsaved = omega arith
due_on Saved = omega arith
due_on Asking = omega arith
due_on Expected = omega arith
due_on Over = omega arith

no_less : (n : ℕ) → n ≤ n
no_less n = omega arith

told_on : (call : Call) (stay : Stay) → rank stay ≤ rank (stay_behind call stay)
told_on Saves stay = answered_on stay
told_on Talks stay = answered_on stay
told_on CallsOff stay = off_on stay
told_on Completes stay = completed_on stay
told_on Ends stay = at_most_over stay
told_on Else stay = no_less (rank stay)

known_on : (starts : Bool) (g : Leaver) (stay : Stay) → g.stay ≡ stay → is_asking stay ≡ true → rank stay < rank (leaver_known starts g).stay
known_on true g Asking at is = omega arith
known_on false g Asking at is = omega arith
known_on starts g Leaving at is = absurd (false≢true is)
known_on starts g Waiting at is = absurd (false≢true is)
known_on starts g Unasked at is = absurd (false≢true is)
known_on starts g Unsaved at is = absurd (false≢true is)
known_on starts g Saved at is = absurd (false≢true is)
known_on starts g Expected at is = absurd (false≢true is)
known_on starts g Over at is = absurd (false≢true is)

pub leavers_go_on : LeaversGoOn
leavers_go_on = record {
  told = λ m g. told_on (call_of m) g.stay;
  passed = λ n g. of_time (λ (h : Parting). rank g.stay ≤ rank h.leaver.stay) n g (due_on g.stay) (no_less (rank g.stay)) (no_less (rank g.stay));
  known = λ starts g is. known_on starts g g.stay refl is;
}

-- ---- its end

-- Who is over stays so.
over_on : (g : Leaver) (times : List ℕ) → g.stay ≡ Over → is_over (leaver_behind g times).stay ≡ true
over_on g [] is = rw is refl
over_on g (n ∷ times) is = over_on (leaver_passed n g).leaver times (of_time (λ (h : Parting). h.leaver.stay ≡ Over) n g (rw is refl) is is)

ends_when : (g : Leaver) (n : ℕ) (times : List ℕ) (over : Bool) → g.stay ≡ Expected → g.ended ≡ true → (g.left - n == 0) ≡ over → g.left ≤ n + time_in times → ((h : Leaver) → h.stay ≡ Expected → h.ended ≡ true → h.left ≤ time_in times → 0 < length times → is_over (leaver_behind h times).stay ≡ true) → is_over (leaver_behind (leaver_passed n g).leaver times).stay ≡ true
ends_when g n times true at gone over within goes = over_on (leaver_passed n g).leaver times (rw (gone, at, over) refl)
ends_when g n times false at gone over within goes =
    let more : 0 < g.left - n = above (g.left - n) over in
    let is : (leaver_passed n g).leaver ≡ leaver_later n g = rw (gone, at, over) refl in
    subst (λ (h : Leaver). is_over (leaver_behind h times).stay ≡ true) (sym is) (goes (leaver_later n g) at gone (omega arith) (some_of times (omega arith)))

pub leavers_end : LeaversEnd
leavers_end g [] at gone within some = absurd (omega arith)
leavers_end g (n ∷ times) at gone within some = ends_when g n times (g.left - n == 0) at gone refl within (λ h is ended few more. leavers_end h times is ended few more)
