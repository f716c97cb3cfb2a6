-- A client says no Error: what it asks, what it says at once and its last word are others.
use Rattle.std.proofs.Common.{ℕ, Bool, true, false, cond, List, [], ◌∷◌, ◌++◌, arith}
use Rattle.std.specs.Prelude.{Option, None, Some}
use Rattle.std.specs.List.{AllByRecursion}
use Rattle.ice_values.specs.Fields.{ErrorFields}
use Rattle.ice_values.specs.declared.severity.Severity.{Severity}
use Rattle.ice_values.specs.declared.severity.Severity.TheVariants.{CanContinue}
use Rattle.xsmp_messages.specs.declared.message.XsmpMessage.{XsmpMessage}
use Rattle.xsmp_messages.specs.declared.message.XsmpMessage.TheVariants.{Die, Error, GetPropertiesReply, Interact, RegisterClientReply, SaveComplete, SaveYourself, SaveYourselfPhase2, ShutdownCancelled}
use Rattle.client_machine.specs.Asking.{requested}
use Rattle.client_machine.specs.Phases.{ClientState, is_done, is_member, is_registered, is_registering, is_resting}
use Rattle.client_machine.specs.Taking.{act_taken, blamed_act, registers_again, second_act, talk_act}
use Rattle.client_machine.specs.declared.acts.ClientAct.{ClientAct}
use Rattle.client_machine.specs.declared.phase.ClientPhase.{ClientPhase}
use Rattle.client_machine.specs.declared.phase.ClientPhase.TheVariants.{Asked, AskedTwo, WantsTwo}
use Rattle.client_machine.specs.declared.requests.Request.{Request}
use Rattle.client_machine.specs.declared.requests.Request.TheVariants.{Close, Delete, Done, Get, Interact as AskDialog, InteractDone, PhaseTwo, Save, Set}
use Rattle.client_machine.specs.declared.saves.SaveAsk.{SaveAsk}
use Rattle.session_model.specs.declared.phase.Phase.{Phase}
use Rattle.session_model.specs.Readings as of
use Rattle.session_model.specs.Rules.{opened, run, taken as session_taken}
use Rattle.session_model.specs.declared.events.SessionEvent.TheVariants.{Said}
use Rattle.end_schedules.specs.Pairs.{Pair, Step, after, begun, down_of, hand, hear, said_at_once, step, unless_ended}
use Rattle.end_schedules.specs.Pairs.Step.{Asks, Breaks, Closes, Happens, Hears, Takes}
use Rattle.end_bytes.specs.Hearing.{ClientsSayNoError, IsNoError}

abbrev NoErrors : List XsmpMessage → Type 0
NoErrors ms = AllByRecursion IsNoError ms

no-errors-both : (xs ys : List XsmpMessage) → NoErrors xs → NoErrors ys → NoErrors (xs ++ ys)
no-errors-both [] ys a b = b
no-errors-both (x ∷ xs) ys a b = (a.0, no-errors-both xs ys a.1 b)

request-no-error : (r : Request) → IsNoError (requested r)
request-no-error (Done success) = λ e. omega (arith, e)
request-no-error PhaseTwo = λ e. omega (arith, e)
request-no-error (AskDialog dialog) = λ e. omega (arith, e)
request-no-error (InteractDone cancel) = λ e. omega (arith, e)
request-no-error (Save wanted) = λ e. omega (arith, e)
request-no-error (Set list) = λ e. omega (arith, e)
request-no-error (Delete names) = λ e. omega (arith, e)
request-no-error Get = λ e. omega (arith, e)
request-no-error (Close reasons) = λ e. omega (arith, e)

-- what it says at once
abbrev Fine : ClientAct → Type 0
Fine act = NoErrors (said_at_once act)

fine-cond : (b : Bool) (x y : ClientAct) → Fine x → Fine y → Fine (cond b x y)
fine-cond true x y f g = f
fine-cond false x y f g = g

fine-blamed : (severity : Severity) (error : ErrorFields) (s : ClientState) → Fine (blamed_act severity error s)
fine-blamed CanContinue error s = fine-cond (registers_again error s) _ _ ((λ e. omega (arith, e)), tt) tt
fine-blamed severity error s = tt

fine-talk : (phase : ClientPhase) (asked : SaveAsk) → Fine (talk_act phase asked)
fine-talk Asked asked = tt
fine-talk AskedTwo asked = tt
fine-talk phase asked = tt

fine-second : (phase : ClientPhase) (asked : SaveAsk) → Fine (second_act phase asked)
fine-second WantsTwo asked = tt
fine-second phase asked = tt

fine-act : (m : XsmpMessage) (s : ClientState) → Fine (act_taken m s)
fine-act (Error error) s = fine-blamed error.severity error s
fine-act (RegisterClientReply id) s = fine-cond (is_registering s.phase) _ _ tt tt
fine-act (SaveYourself kind shutdown style fast) s = fine-cond (is_resting s.phase) _ _ tt tt
fine-act Interact s = fine-talk s.phase s.asked
fine-act SaveYourselfPhase2 s = fine-second s.phase s.asked
fine-act SaveComplete s = fine-cond (is_done s.phase) _ _ tt tt
fine-act ShutdownCancelled s = fine-cond (is_member s.phase) _ _ tt tt
fine-act Die s = fine-cond (is_resting s.phase) _ _ tt tt
fine-act (GetPropertiesReply list) s = fine-cond (is_registered s.phase) _ _ tt tt
fine-act m s = tt

-- each step

hand-no-error : (down : List XsmpMessage) (p : Pair) → NoErrors p.up → NoErrors (hand down p).up
hand-no-error [] p a = a
hand-no-error (m ∷ down) p a = no-errors-both p.up (said_at_once (act_taken m p.state)) a (fine-act m p.state)

unless-no-error : (phase : Option Phase) (up : List XsmpMessage) → NoErrors up → NoErrors (unless_ended phase up)
unless-no-error None up a = tt
unless-no-error (Some phase) up a = a

hear-no-error : (c sequence : ℕ) (frame : List ℕ) (up : List XsmpMessage) (p : Pair) → NoErrors up → NoErrors p.up → NoErrors (hear c sequence frame up p).up
hear-no-error c sequence frame [] p a b = b
hear-no-error c sequence frame (m ∷ up) p a b = unless-no-error (of.phase_of c (session_taken (Said c m sequence frame) p.history)) up a.1

step-no-error : (c : ℕ) (s : Step) (p : Pair) → NoErrors p.up → NoErrors (step c s p).up
step-no-error c (Asks r) p a = no-errors-both p.up (requested r ∷ []) a (request-no-error r, tt)
step-no-error c (Hears sequence frame) p a = hear-no-error c sequence frame p.up p a a
step-no-error c Takes p a = hand-no-error (down_of c p) p a
step-no-error c (Closes reasons) p a = no-errors-both p.up _ a ((λ e. omega (arith, e)), tt)
step-no-error c (Happens event) p a = a
step-no-error c Breaks p a = a

pub after-no-error : (c : ℕ) (steps : List Step) (p : Pair) → NoErrors p.up → NoErrors (after c steps p).up
after-no-error c [] p a = a
after-no-error c (s ∷ steps) p a = after-no-error c steps (step c s p) (step-no-error c s p a)

pub no-errors : ClientsSayNoError
no-errors opening events c previous asked steps takes may = after-no-error c steps (begun c previous asked (run (opened opening) events)) ((λ e. omega (arith, e)), tt)
