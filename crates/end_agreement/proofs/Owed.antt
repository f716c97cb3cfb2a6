-- A client owes one answer at most, and owes it for a SaveYourself.
use Rattle.std.proofs.Common.{◌≡◌, sym, subst, Bool, true, cond, ◌||◌, ◌+◌, ◌≤◌, arith}
use Rattle.ice_values.specs.declared.severity.Severity.{Severity}
use Rattle.ice_values.specs.declared.severity.Severity.TheVariants.{CanContinue}
use Rattle.xsmp_messages.specs.declared.message.XsmpMessage.{XsmpMessage}
use Rattle.xsmp_messages.specs.declared.message.XsmpMessage.TheVariants.{Die, Error, Interact, RegisterClientReply, SaveComplete, SaveYourself, SaveYourselfPhase2, ShutdownCancelled}
use Rattle.client_machine.specs.Asking.{may_ask}
use Rattle.client_machine.specs.Phases.{ClientState, asked_phase, blamed_phase, is_owing, is_saving, phase_given, phase_said, saved_phase, second_phase, talked_phase}
use Rattle.client_machine.specs.declared.phase.ClientPhase.{ClientPhase}
use Rattle.client_machine.specs.declared.phase.ClientPhase.TheVariants.{Asked, Dead, Done, Idle, Interacting, Owing, Registering, Saving, SavingTwo, WantsTwo}
use Rattle.client_machine.specs.declared.requests.Request.{Request}
use Rattle.client_machine.specs.declared.requests.Request.TheVariants.{Close, Done as SayDone, Interact as AskDialog, InteractDone as SayTalked, PhaseTwo}
use Rattle.end_agreement.specs.Laws.{AnswersAreOwed, SavesAreAsked, answers_save, asks_save, owes}

-- What the client says

done-owed : (ph : ClientPhase) → (is_saving ph || is_owing ph) ≡ true → 1 + owes (saved_phase ph) ≤ owes ph
done-owed Saving e = omega arith
done-owed SavingTwo e = omega arith
done-owed Owing e = omega arith
done-owed ph e = absurd (grind arith)

asked-owed : (ph : ClientPhase) → owes (asked_phase ph) ≤ owes ph
asked-owed Saving = omega arith
asked-owed ph = omega arith

talked-owed : (ph : ClientPhase) → owes (talked_phase ph) ≤ owes ph
talked-owed Interacting = omega arith
talked-owed ph = omega arith

second-owed : (ph : ClientPhase) → owes (second_phase ph) ≤ owes ph
second-owed Saving = omega arith
second-owed ph = omega arith

none-owed : (ph : ClientPhase) → owes Dead ≤ owes ph
none-owed ph = omega arith

said-owed : (r : Request) (s : ClientState) → may_ask r s ≡ true → answers_save r + owes (phase_said r s.phase) ≤ owes s.phase
said-owed (SayDone success) s e = done-owed s.phase e
said-owed (AskDialog dialog) s e = omega (arith, asked-owed s.phase)
said-owed (SayTalked cancel) s e = omega (arith, talked-owed s.phase)
said-owed PhaseTwo s e = omega (arith, second-owed s.phase)
said-owed (Close reasons) s e = omega (arith, none-owed s.phase)
said-owed r s e = omega arith

pub answers-owed : AnswersAreOwed
answers-owed r s e =
    subst (λ (b : Bool). answers_save r + owes (cond b (record s { phase = phase_said r s.phase }) s).phase ≤ owes s.phase) (sym e) (said-owed r s e)

-- What it takes

blame-owed : (severity : Severity) (ph : ClientPhase) → owes (blamed_phase severity ph) ≤ owes ph + 0
blame-owed CanContinue ph = omega arith
blame-owed severity ph = omega arith

given-owed : (m : XsmpMessage) (ph : ClientPhase) → owes (phase_given m ph) ≤ owes ph + asks_save m
given-owed (Error error) ph = blame-owed error.severity ph
given-owed (RegisterClientReply id) Registering = omega arith
given-owed (RegisterClientReply id) ph = omega arith
given-owed (SaveYourself kind shutdown style fast) Idle = omega arith
given-owed (SaveYourself kind shutdown style fast) ph = omega arith
given-owed Interact Asked = omega arith
given-owed Interact ph = omega arith
given-owed SaveYourselfPhase2 WantsTwo = omega arith
given-owed SaveYourselfPhase2 ph = omega arith
given-owed SaveComplete Done = omega arith
given-owed SaveComplete ph = omega arith
given-owed ShutdownCancelled Done = omega arith
given-owed ShutdownCancelled ph = omega arith
given-owed Die Idle = omega arith
given-owed Die ph = omega arith
given-owed m ph = omega arith

pub saves-asked : SavesAreAsked
saves-asked m s = given-owed m s.phase
