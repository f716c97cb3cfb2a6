-- What an act asks of a client, and how a save goes on.
use Rattle.std.proofs.Common.{◌≡◌, ℕ, cond, not, Bool, true, false, List, [], None, Some, Result, Ok, Err, refl, sym, ◌∙◌, ap, subst, arith}
use Rattle.std.proofs.lemmas.Bool.{false≢true}
use Rattle.ice_values.specs.Fields.{ErrorFields}
use Rattle.ice_values.specs.declared.numbers.Endian.TheVariants.{Lsb}
use Rattle.ice_values.specs.declared.severity.Severity.{Severity}
use Rattle.ice_values.specs.declared.severity.Severity.TheVariants.{CanContinue}
use Rattle.xsmp_messages.specs.Messages.{IsTooLong}
use Rattle.xsmp_messages.specs.declared.message.XsmpMessage.{XsmpMessage}
use Rattle.xsmp_messages.specs.declared.message.XsmpMessage.TheVariants.{Die as ToldToDie, Error, GetPropertiesReply, Interact, RegisterClient, RegisterClientReply, SaveComplete, SaveYourself, SaveYourselfPhase2, ShutdownCancelled}
use Rattle.client_machine.specs.Laws.{stage_phase}
use Rattle.ice_values.specs.declared.saves.SaveStyle.{SaveStyle}
use Rattle.client_machine.specs.Phases.{ClientState, completed_phase, is_dead, is_done, is_member, is_registered, is_registering, is_resting, phase_said}
use Rattle.client_machine.specs.Taking.{act_taken, blamed_act, registers_again, second_act, taken, talk_act}
use Rattle.client_machine.specs.declared.acts.ClientAct.{ClientAct}
use Rattle.client_machine.specs.declared.acts.ClientAct.TheVariants.{Again, Cancelled, Complete, Die, Nothing, Properties, Registered, Save, Unexpected}
use Rattle.client_machine.specs.declared.phase.ClientPhase.{ClientPhase}
use Rattle.client_machine.specs.declared.phase.ClientPhase.TheVariants.{Asked, AskedTwo, Dead, Done as HasSaved, WantsTwo}
use Rattle.client_machine.specs.declared.saves.SaveAsk.{SaveAsk}
use Rattle.client_machine.specs.declared.saves.Stage.TheVariants.{First, Second, Talking, TalkingTwo}
use Rattle.client_machine.specs.Asking.{may_ask, requested}
use Rattle.client_machine.specs.Saves.{IsLawful, allows, at_stage, is_lawful_step, may_cancel, step_request}
use Rattle.client_machine.specs.declared.requests.AskRefusal.{AskRefusal}
use Rattle.client_machine.specs.declared.requests.Request.{Request}
use Rattle.client_machine.specs.declared.requests.Request.TheVariants.{Close}
use Rattle.client_machine.specs.declared.saves.SaveAnswer.{SaveAnswer}
use Rattle.client_machine.specs.declared.saves.Stage.{Stage}
use Rattle.client_machine.specs.declared.saves.Step.{Step}
use Rattle.client_machine.specs.declared.saves.Step.TheVariants.{Done, PhaseTwo, Interact as AskDialog, Talked}
use Rattle.client_machine.proofs.Places.{asked_in_phase, lawful_places}
use Rattle.client_engine.specs.Answering.{after_answer, after_request, answered_at, closes, may_ask_at, stage_again, stopped}
use Rattle.client_engine.specs.Places.{id_at, on_client}
use Rattle.client_engine.specs.Speaking.{IsAsked, MayAct, MayAnswer}
use Rattle.protocol_messages.specs.declared.message.Message.{Message}
use Rattle.protocol_messages.specs.declared.message.Message.TheVariants.{Xsmp}
use Rattle.client_engine.specs.declared.place.Place.{Place}
use Rattle.client_engine.specs.declared.place.Place.TheVariants.{Opening, Speaking, Stopped}
use Rattle.client_engine.specs.declared.place.Talk.{Talk}
use Rattle.client_engine.proofs.Short.{short-previous}

-- what an act asks of a client is asked in its place
may_act_by : (c : ClientState) (act : ClientAct) → ((ask : SaveAsk) → act ≡ Save ask → (c.phase ≡ stage_phase ask.stage) × (c.asked ≡ ask)) → ((message : XsmpMessage) → act ≡ Again message → message ≡ RegisterClient []) → (act ≡ Complete → may_ask (Close []) c ≡ true) → MayAct c act
may_act_by c (Save ask) place again closes =
    let asked = place ask refl in
    record { phase = asked.0; style = ap (λ (a : SaveAsk). a.style) asked.1; shutdown = ap (λ (a : SaveAsk). a.shutdown) asked.1 }
may_act_by c Complete place again closes = closes refl
may_act_by c (Again message) place again closes = subst (λ (m : XsmpMessage). ¬ (IsTooLong Lsb m)) (sym (again message refl)) (short-previous [] (omega arith))
may_act_by c act place again closes = tt

abbrev registers : ClientAct → Type 0
registers (Again message) = message ≡ RegisterClient []
registers act = Unit {0}

registers-by : (act : ClientAct) (message : XsmpMessage) → registers act → act ≡ Again message → message ≡ RegisterClient []
registers-by act message holds is_again = rw is_again at holds

registers-cond : (b : Bool) (x y : ClientAct) → registers x → registers y → registers (cond b x y)
registers-cond true x y one two = one
registers-cond false x y one two = two

registers-blamed : (severity : Severity) (error : ErrorFields) (c : ClientState) → registers (blamed_act severity error c)
registers-blamed CanContinue error c = registers-cond (registers_again error c) (Again (RegisterClient [])) Nothing refl tt
registers-blamed severity error c = tt

registers-talk : (phase : ClientPhase) (asked : SaveAsk) → registers (talk_act phase asked)
registers-talk Asked asked = tt
registers-talk AskedTwo asked = tt
registers-talk phase asked = tt

registers-second : (phase : ClientPhase) (asked : SaveAsk) → registers (second_act phase asked)
registers-second WantsTwo asked = tt
registers-second phase asked = tt

registers-taken : (m : XsmpMessage) (c : ClientState) → registers (act_taken m c)
registers-taken (Error error) c = registers-blamed error.severity error c
registers-taken (RegisterClientReply id) c = registers-cond (is_registering c.phase) (Registered id) Unexpected tt tt
registers-taken (SaveYourself kind shutdown style fast) c = registers-cond (is_resting c.phase) (Save (record { stage = First; kind = kind; shutdown = shutdown; style = style; fast = fast })) Unexpected tt tt
registers-taken Interact c = registers-talk c.phase c.asked
registers-taken SaveYourselfPhase2 c = registers-second c.phase c.asked
registers-taken SaveComplete c = registers-cond (is_done c.phase) Complete Nothing tt tt
registers-taken ShutdownCancelled c = registers-cond (is_member c.phase) Cancelled Nothing tt tt
registers-taken ToldToDie c = registers-cond (is_resting c.phase) Die Unexpected tt tt
registers-taken (GetPropertiesReply list) c = registers-cond (is_registered c.phase) (Properties list) Unexpected tt tt
registers-taken m c = tt

-- ---- one whose save is complete may close

abbrev completes : ClientAct → Bool
completes Complete = true
completes act = false

completes-cond : (b : Bool) (x y : ClientAct) → completes x ≡ false → completes y ≡ false → completes (cond b x y) ≡ false
completes-cond true x y one two = one
completes-cond false x y one two = two

completes-blamed : (severity : Severity) (error : ErrorFields) (c : ClientState) → completes (blamed_act severity error c) ≡ false
completes-blamed CanContinue error c = completes-cond (registers_again error c) (Again (RegisterClient [])) Nothing refl refl
completes-blamed severity error c = refl

completes-talk : (phase : ClientPhase) (asked : SaveAsk) → completes (talk_act phase asked) ≡ false
completes-talk Asked asked = refl
completes-talk AskedTwo asked = refl
completes-talk phase asked = refl

completes-second : (phase : ClientPhase) (asked : SaveAsk) → completes (second_act phase asked) ≡ false
completes-second WantsTwo asked = refl
completes-second phase asked = refl

-- what was done is idle then
closes-completed : (phase : ClientPhase) → completes (cond (is_done phase) Complete Nothing) ≡ true → not (is_dead (completed_phase phase)) ≡ true
closes-completed HasSaved is = refl
closes-completed phase is = cc

closes-taken : (m : XsmpMessage) (c : ClientState) → completes (act_taken m c) ≡ true → may_ask (Close []) (taken m c) ≡ true
closes-taken (Error error) c is = absurd (false≢true (sym (completes-blamed error.severity error c) ∙ is))
closes-taken (RegisterClientReply id) c is = absurd (false≢true (sym (completes-cond (is_registering c.phase) (Registered id) Unexpected refl refl) ∙ is))
closes-taken (SaveYourself kind shutdown style fast) c is = absurd (false≢true (sym (completes-cond (is_resting c.phase) (Save (record { stage = First; kind = kind; shutdown = shutdown; style = style; fast = fast })) Unexpected refl refl) ∙ is))
closes-taken Interact c is = absurd (false≢true (sym (completes-talk c.phase c.asked) ∙ is))
closes-taken SaveYourselfPhase2 c is = absurd (false≢true (sym (completes-second c.phase c.asked) ∙ is))
closes-taken SaveComplete c is = closes-completed c.phase is
closes-taken ShutdownCancelled c is = absurd (false≢true (sym (completes-cond (is_member c.phase) Cancelled Nothing refl refl) ∙ is))
closes-taken ToldToDie c is = absurd (false≢true (sym (completes-cond (is_resting c.phase) Die Unexpected refl refl) ∙ is))
closes-taken (GetPropertiesReply list) c is = absurd (false≢true (sym (completes-cond (is_registered c.phase) (Properties list) Unexpected refl refl) ∙ is))
closes-taken m c is = absurd (false≢true is)

pub may_act : (m : XsmpMessage) (c : ClientState) → MayAct (taken m c) (act_taken m c)
may_act m c = may_act_by (taken m c) (act_taken m c) (λ ask. asked_in_phase m c ask) (λ message. registers-by (act_taken m c) message (registers-taken m c)) (λ is. closes-taken m c (ap completes is))

-- ---- an answer to a save

some_stage : (one other : Stage) → Some one ≡ Some other → one ≡ other
some_stage one other same = cc

-- what is lawful depends on the style of the save, and whether it is a shutdown
same_law : (stage : Stage) (a b : SaveAsk) (step : Step) → a.style ≡ b.style → a.shutdown ≡ b.shutdown → is_lawful_step stage a step ≡ is_lawful_step stage b step
same_law First a b (Done success) style shutdown = refl
same_law First a b PhaseTwo style shutdown = refl
same_law First a b (AskDialog dialog) style shutdown = ap (λ (s : SaveStyle). allows s dialog) style
same_law First a b (Talked cancel) style shutdown = refl
same_law Second a b (Done success) style shutdown = refl
same_law Second a b PhaseTwo style shutdown = refl
same_law Second a b (AskDialog dialog) style shutdown = ap (λ (s : SaveStyle). allows s dialog) style
same_law Second a b (Talked cancel) style shutdown = refl
same_law Talking a b (Done success) style shutdown = refl
same_law Talking a b PhaseTwo style shutdown = refl
same_law Talking a b (AskDialog dialog) style shutdown = refl
same_law Talking a b (Talked cancel) style shutdown = ap (λ (s : Bool). may_cancel s cancel) shutdown
same_law TalkingTwo a b (Done success) style shutdown = refl
same_law TalkingTwo a b PhaseTwo style shutdown = refl
same_law TalkingTwo a b (AskDialog dialog) style shutdown = refl
same_law TalkingTwo a b (Talked cancel) style shutdown = ap (λ (s : Bool). may_cancel s cancel) shutdown

-- a lawful step has its place
may_say : (ask : SaveAsk) (answer : SaveAnswer) (c : ClientState) → IsAsked ask c → IsLawful ask answer → may_ask (step_request answer.step) c ≡ true
may_say ask answer c asked lawful = sym (lawful_places ask.stage c answer.step asked.phase) ∙ (same_law ask.stage c.asked ask answer.step asked.style asked.shutdown ∙ lawful.step)

-- so its message is said
pub lawful_said : (ask : SaveAsk) (answer : SaveAnswer) (place : Place) → MayAnswer ask place → IsLawful ask answer → answered_at (step_request answer.step) place ≡ Ok (Xsmp (requested (step_request answer.step)))
lawful_said ask answer (Opening opener previous) may lawful = absurd may
lawful_said ask answer (Speaking joined c) may lawful = rw (may_say ask answer c may lawful) refl
lawful_said ask answer Stopped may lawful = absurd may

pub not_refused : (ask : SaveAsk) (answer : SaveAnswer) (place : Place) (request : Request) (result : Result Message AskRefusal) (refusal : AskRefusal) → MayAnswer ask place → IsLawful ask answer → request ≡ step_request answer.step → result ≡ answered_at request place → result ≡ Err refusal → ⊥
not_refused ask answer place request result refusal may lawful is said refused =
    let bad : ◌≡◌ {A = Result Message AskRefusal} (Err refusal) (Ok (Xsmp (requested (step_request answer.step)))) = sym refused ∙ (said ∙ (ap (λ (r : Request). answered_at r place) is ∙ lawful_said ask answer place may lawful)) in
    cc

pub message_said : (ask : SaveAsk) (answer : SaveAnswer) (place : Place) (request : Request) (result : Result Message AskRefusal) (message : Message) → MayAnswer ask place → IsLawful ask answer → request ≡ step_request answer.step → result ≡ answered_at request place → result ≡ Ok message → message ≡ Xsmp (requested (step_request answer.step))
message_said ask answer place request result message may lawful is said good =
    let same : ◌≡◌ {A = Result Message AskRefusal} (Ok message) (Ok (Xsmp (requested (step_request answer.step)))) = sym good ∙ (said ∙ (ap (λ (r : Request). answered_at r place) is ∙ lawful_said ask answer place may lawful)) in
    by same
  where
    by : ◌≡◌ {A = Result Message AskRefusal} (Ok message) (Ok (Xsmp (requested (step_request answer.step)))) → message ≡ Xsmp (requested (step_request answer.step))
    by same = cc

-- once it has talked, the client saves on in the phase in which it asked for that
talked_phase : (stage next : Stage) (asked : SaveAsk) (step : Step) (phase : ClientPhase) → phase ≡ stage_phase stage → stage_again stage ≡ Some next → is_lawful_step stage asked step ≡ true → phase_said (step_request step) phase ≡ stage_phase next
talked_phase First next asked step phase is again lawful = cc
talked_phase Second next asked step phase is again lawful = cc
talked_phase Talking next asked (Talked cancel) phase is again lawful = rw is (ap stage_phase (some_stage First next again))
talked_phase Talking next asked (Done success) phase is again lawful = cc
talked_phase Talking next asked PhaseTwo phase is again lawful = cc
talked_phase Talking next asked (AskDialog dialog) phase is again lawful = cc
talked_phase TalkingTwo next asked (Talked cancel) phase is again lawful = rw is (ap stage_phase (some_stage Second next again))
talked_phase TalkingTwo next asked (Done success) phase is again lawful = cc
talked_phase TalkingTwo next asked PhaseTwo phase is again lawful = cc
talked_phase TalkingTwo next asked (AskDialog dialog) phase is again lawful = cc

pub asked_again : (ask : SaveAsk) (answer : SaveAnswer) (place : Place) (next : Stage) → MayAnswer ask place → IsLawful ask answer → stage_again ask.stage ≡ Some next → MayAnswer (at_stage next ask) (on_client (after_answer answer) place)
asked_again ask answer (Opening opener previous) next may lawful again = absurd may
asked_again ask answer (Speaking joined c) next may lawful again =
    rw (may_say ask answer c may lawful) (record { phase = talked_phase ask.stage next ask answer.step c.phase may.phase again lawful.step; style = may.style; shutdown = may.shutdown })
asked_again ask answer Stopped next may lawful again = absurd may

-- ---- the client's end

closes_said : (place : Place) (reasons : List (List ℕ)) → may_ask_at (Close reasons) place ≡ true → answered_at (Close reasons) place ≡ Ok (closes reasons)
closes_said (Opening opener previous) reasons may = absurd (false≢true may)
closes_said (Speaking joined c) reasons may = rw may refl
closes_said Stopped reasons may = absurd (false≢true may)

closes_talk : (talk : Talk) (reasons : List (List ℕ)) → may_ask_at (Close reasons) talk.place ≡ true → after_request (Close reasons) talk ≡ stopped talk
closes_talk talk reasons may = rw may refl

named_alive : (phase : ClientPhase) (own id : List ℕ) → cond (is_registered phase) (Some own) None ≡ Some id → not (is_dead phase) ≡ true
named_alive Dead own id named = cc
named_alive phase own id named = refl

-- one that has an ID may close
pub named_closes : (place : Place) (id : List ℕ) → id_at place ≡ Some id → may_ask_at (Close []) place ≡ true
named_closes (Opening opener previous) id named = cc
named_closes (Speaking joined c) id named = named_alive c.phase c.id id named
named_closes Stopped id named = cc

-- where it may close, it is answered so, and not refused
pub closing_said : (place : Place) (reasons : List (List ℕ)) (result : Result Message AskRefusal) (message : Message) → may_ask_at (Close []) place ≡ true → reasons ≡ [] → result ≡ answered_at (Close reasons) place → result ≡ Ok message → message ≡ closes []
closing_said place reasons result message may none answer good =
    by (sym good ∙ (answer ∙ (ap (λ (rs : List (List ℕ)). answered_at (Close rs) place) none ∙ closes_said place [] may)))
  where
    by : ◌≡◌ {A = Result Message AskRefusal} (Ok message) (Ok (closes [])) → message ≡ closes []
    by same = cc

pub closing_granted : (place : Place) (reasons : List (List ℕ)) (result : Result Message AskRefusal) (refusal : AskRefusal) → may_ask_at (Close []) place ≡ true → reasons ≡ [] → result ≡ answered_at (Close reasons) place → result ≡ Err refusal → ⊥
closing_granted place reasons result refusal may none answer refused =
    let bad : ◌≡◌ {A = Result Message AskRefusal} (Err refusal) (Ok (closes [])) = sym refused ∙ (answer ∙ (ap (λ (rs : List (List ℕ)). answered_at (Close rs) place) none ∙ closes_said place [] may)) in
    cc

pub closing_talk : (talk next : Talk) (reasons : List (List ℕ)) → may_ask_at (Close []) talk.place ≡ true → reasons ≡ [] → next ≡ after_request (Close reasons) talk → next ≡ stopped talk
closing_talk talk next reasons may none after = after ∙ (ap (λ (rs : List (List ℕ)). after_request (Close rs) talk) none ∙ closes_talk talk [] may)

-- one that takes nothing more is as one that stops
pub is_stopped : (talk : Talk) → talk.place ≡ Stopped → talk ≡ stopped talk
is_stopped talk place = ap (λ (p : Place). let t : Talk = record { place = p; counts = talk.counts } in t) place
