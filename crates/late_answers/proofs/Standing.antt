-- Where a leaver waits for its turn, and where it has failed.
use Rattle.std.proofs.Common.{◌≡◌, Bool, true, false, Option, Some, refl, sym, ◌∙◌}
use Rattle.std.specs.Prelude.{◌||◌, if◌then◌else◌}
use Rattle.std.proofs.lemmas.Bool.{false≢true}
use Rattle.xsmp_messages.specs.declared.message.XsmpMessage.{XsmpMessage}
use Rattle.xsmp_messages.specs.declared.message.XsmpMessage.TheVariants.{Die, Interact, RegisterClientReply, SaveComplete, SaveYourself, SaveYourselfPhase2, ShutdownCancelled}
use Rattle.session_model.specs.Phases.{completed_phase, is_asked, is_bound, phase_given, registered_phase}
use Rattle.session_model.specs.declared.phase.Phase.{Phase}
use Rattle.session_model.specs.declared.phase.Phase.TheVariants.{Asked, AskedTwo, Done, Idle, Interacting, InteractingTwo, Owing, Saving, SavingTwo, WantsTwo}
use Rattle.late_answers.specs.Late.{is_done}
use Rattle.late_answers.specs.Leavers.{call_of, late_parting, leaver_at_first, parting, stay_behind, stay_due}
use Rattle.late_answers.specs.LeaverLaws.{comes, is_idle_phase, stands, wants_two, LeaversStand}
use Rattle.late_answers.specs.declared.leaver.Stay.{Stay}
use Rattle.late_answers.specs.declared.leaver.Stay.TheVariants.{Waiting, Unasked}
use Rattle.late_answers.specs.declared.leaver.Line.TheVariants.{Nothing}
use Rattle.late_answers.specs.declared.leaver.Parting.{Parting}
use Rattle.late_answers.proofs.Parted.{of_time}

late_stands : (phase : Option Phase) → is_bound phase ≡ true → stands (late_parting phase).leaver.stay phase ≡ true
late_stands (Some Idle) bound = refl
late_stands (Some Owing) bound = refl
late_stands (Some Saving) bound = refl
late_stands (Some SavingTwo) bound = refl
late_stands (Some Interacting) bound = refl
late_stands (Some InteractingTwo) bound = refl
late_stands (Some Done) bound = refl
late_stands (Some Asked) bound = refl
late_stands (Some AskedTwo) bound = refl
late_stands (Some WantsTwo) bound = refl
late_stands phase bound = absurd (false≢true bound)

left_stands : (gone : Bool) (phase : Option Phase) → is_bound phase ≡ true → stands (if gone then late_parting phase else parting Nothing leaver_at_first).leaver.stay phase ≡ true
left_stands true phase bound = late_stands phase bound
left_stands false phase bound = refl

-- who waits for its turn stays so
waiting_on : (phase : Option Phase) → (is_asked phase || wants_two phase) ≡ true → (is_asked (completed_phase phase) || wants_two (completed_phase phase)) ≡ true
waiting_on (Some Asked) is = refl
waiting_on (Some AskedTwo) is = refl
waiting_on (Some WantsTwo) is = refl
waiting_on phase is = absurd (false≢true is)

waiting_known : (phase : Option Phase) → (is_asked phase || wants_two phase) ≡ true → (is_asked (registered_phase phase) || wants_two (registered_phase phase)) ≡ true
waiting_known (Some Asked) is = refl
waiting_known (Some AskedTwo) is = refl
waiting_known (Some WantsTwo) is = refl
waiting_known phase is = absurd (false≢true is)

done_known : (phase : Option Phase) → is_done phase ≡ true → is_done (registered_phase phase) ≡ true
done_known (Some Done) is = refl
done_known phase is = absurd (false≢true is)

-- who has failed is asked for nothing
only_done : {A : Type 0} (phase : Option Phase) (asks : Option Phase → Bool) → is_done phase ≡ true → asks (Some Done) ≡ false → asks phase ≡ true → A
only_done (Some Done) asks is none some = absurd (false≢true (sym none ∙ some))
only_done phase asks is none some = absurd (false≢true is)

told_stands : (m : XsmpMessage) (stay : Stay) (phase : Option Phase) → stands stay phase ≡ true → comes m phase ≡ true → stands (stay_behind (call_of m) stay) (phase_given m phase) ≡ true
told_stands (SaveYourself kind shutdown style fast) Waiting phase stood comes_ = refl
told_stands SaveYourselfPhase2 Waiting phase stood comes_ = refl
told_stands Interact Waiting phase stood comes_ = refl
told_stands ShutdownCancelled Waiting phase stood comes_ = refl
told_stands SaveComplete Waiting phase stood comes_ = waiting_on phase stood
told_stands Die Waiting phase stood comes_ = refl
told_stands (RegisterClientReply id) Waiting phase stood comes_ = waiting_known phase stood
told_stands m Waiting phase stood comes_ = stood
told_stands (SaveYourself kind shutdown style fast) Unasked phase stood comes_ = only_done phase is_idle_phase stood refl comes_
told_stands SaveYourselfPhase2 Unasked phase stood comes_ = only_done phase wants_two stood refl comes_
told_stands Interact Unasked phase stood comes_ = only_done phase is_asked stood refl comes_
told_stands ShutdownCancelled Unasked phase stood comes_ = refl
told_stands SaveComplete Unasked phase stood comes_ = refl
told_stands Die Unasked phase stood comes_ = refl
told_stands (RegisterClientReply id) Unasked phase stood comes_ = done_known phase stood
told_stands m Unasked phase stood comes_ = stood
told_stands m stay phase stood comes_ = refl

due_stands : (stay : Stay) (phase : Option Phase) → stands stay phase ≡ true → stands (stay_due stay) phase ≡ true
due_stands Waiting phase stood = stood
due_stands Unasked phase stood = stood
due_stands stay phase stood = refl

pub leavers_stand : LeaversStand
leavers_stand = record {
  left = λ l bound. left_stands l.gone l.phase bound;
  told = λ m g phase stood comes_. told_stands m g.stay phase stood comes_;
  passed = λ n g phase stood. of_time (λ (h : Parting). stands h.leaver.stay phase ≡ true) n g (due_stands g.stay phase stood) stood stood;
}
