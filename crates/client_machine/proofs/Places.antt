-- A client that was asked is in the phase of the stage, where it may send exactly the lawful steps.
use Rattle.std.proofs.Common.{◌≡◌, ℕ, Bool, true, false, cond, List, [], refl, sym, ◌∙◌, ap, subst}
use Rattle.std.proofs.lemmas.Bool.{false≢true}
use Rattle.ice_values.specs.Fields.{ErrorFields}
use Rattle.ice_values.specs.declared.severity.Severity.{Severity}
use Rattle.ice_values.specs.declared.severity.Severity.TheVariants.{CanContinue}
use Rattle.ice_values.specs.declared.saves.SaveKind.{SaveKind}
use Rattle.ice_values.specs.declared.saves.SaveStyle.{SaveStyle}
use Rattle.xsmp_messages.specs.declared.message.XsmpMessage.TheVariants.{Die, Error, GetPropertiesReply, Interact, RegisterClient, RegisterClientReply, SaveComplete, SaveYourself, SaveYourselfPhase2, ShutdownCancelled}
use Rattle.client_machine.specs.Asking.{may_ask}
use Rattle.client_machine.specs.Laws.{AskedInItsPhase, LawfulStepsHaveTheirPlace, stage_phase}
use Rattle.client_machine.specs.Phases.{ClientState, is_done, is_member, is_registered, is_registering, is_resting}
use Rattle.client_machine.specs.Saves.{at_stage, is_lawful_step, step_request}
use Rattle.client_machine.specs.Taking.{act_taken, asked_after, blamed_act, registers_again, taken}
use Rattle.client_machine.specs.declared.acts.ClientAct.{ClientAct}
use Rattle.client_machine.specs.declared.acts.ClientAct.TheVariants.{Again, Cancelled, Complete, Die as ToDie, Nothing, Properties, Refused, Registered, Save, Unexpected}
use Rattle.client_machine.specs.declared.phase.ClientPhase.{ClientPhase}
use Rattle.client_machine.specs.declared.phase.ClientPhase.TheVariants.{Asked, AskedTwo, Done, Idle, WantsTwo}
use Rattle.client_machine.specs.declared.saves.SaveAsk.{SaveAsk}
use Rattle.client_machine.specs.declared.saves.Stage.{Stage}
use Rattle.client_machine.specs.declared.saves.Stage.TheVariants.{First, Second, Talking, TalkingTwo}
use Rattle.client_machine.specs.declared.saves.Step.{Step}
use Rattle.client_machine.specs.declared.saves.Step.TheVariants.{Done as StepDone, Interact as StepInteract, PhaseTwo, Talked}

-- the client in this phase, asked this
client_in : ClientPhase → List ℕ → SaveAsk → ClientState
client_in phase id ask = record { phase = phase; id = id; asked = ask }

-- in the phase of a stage it may send exactly the lawful steps
in_place : (stage : Stage) (id : List ℕ) (ask : SaveAsk) (step : Step) → is_lawful_step stage ask step ≡ may_ask (step_request step) (client_in (stage_phase stage) id ask)
unfolding client_in
in_place First id ask (StepDone success) = refl
in_place First id ask PhaseTwo = refl
in_place First id ask (StepInteract dialog) = refl
in_place First id ask (Talked cancel) = refl
in_place Second id ask (StepDone success) = refl
in_place Second id ask PhaseTwo = refl
in_place Second id ask (StepInteract dialog) = refl
in_place Second id ask (Talked cancel) = refl
in_place Talking id ask (StepDone success) = refl
in_place Talking id ask PhaseTwo = refl
in_place Talking id ask (StepInteract dialog) = refl
in_place Talking id ask (Talked cancel) = refl
in_place TalkingTwo id ask (StepDone success) = refl
in_place TalkingTwo id ask PhaseTwo = refl
in_place TalkingTwo id ask (StepInteract dialog) = refl
in_place TalkingTwo id ask (Talked cancel) = refl

pub lawful_places : LawfulStepsHaveTheirPlace
unfolding client_in
lawful_places stage s step place =
    let Placed : ClientPhase → Type 0 = λ phase. is_lawful_step stage s.asked step ≡ may_ask (step_request step) (client_in phase s.id s.asked) in
    subst Placed (sym place) (in_place stage s.id s.asked step)

-- The three messages that ask for a save name what is asked.

named_ask : (given ask : SaveAsk) → Save given ≡ Save ask → (stage_phase given.stage ≡ stage_phase ask.stage) × (given ≡ ask)
named_ask given ask named =
    let same : given ≡ ask = ap (λ act. asked_after act given) named in
    (ap (λ (a : SaveAsk). stage_phase a.stage) same, same)

save_asks : (phase : ClientPhase) (id : List ℕ) (old : SaveAsk) (kind : SaveKind) (shutdown : Bool) (style : SaveStyle) (fast : Bool) (ask : SaveAsk)
    → act_taken (SaveYourself kind shutdown style fast) (client_in phase id old) ≡ Save ask
    → ((taken (SaveYourself kind shutdown style fast) (client_in phase id old)).phase ≡ stage_phase ask.stage) × ((taken (SaveYourself kind shutdown style fast) (client_in phase id old)).asked ≡ ask)
unfolding client_in
save_asks Idle id old kind shutdown style fast ask named = named_ask (record { stage = First; kind = kind; shutdown = shutdown; style = style; fast = fast }) ask named
save_asks Done id old kind shutdown style fast ask named = named_ask (record { stage = First; kind = kind; shutdown = shutdown; style = style; fast = fast }) ask named
save_asks phase id old kind shutdown style fast ask named = absurd cc

token_asks : (phase : ClientPhase) (id : List ℕ) (old ask : SaveAsk)
    → act_taken Interact (client_in phase id old) ≡ Save ask
    → ((taken Interact (client_in phase id old)).phase ≡ stage_phase ask.stage) × ((taken Interact (client_in phase id old)).asked ≡ ask)
unfolding client_in
token_asks Asked id old ask named = named_ask (at_stage Talking old) ask named
token_asks AskedTwo id old ask named = named_ask (at_stage TalkingTwo old) ask named
token_asks phase id old ask named = absurd cc

second_asks : (phase : ClientPhase) (id : List ℕ) (old ask : SaveAsk)
    → act_taken SaveYourselfPhase2 (client_in phase id old) ≡ Save ask
    → ((taken SaveYourselfPhase2 (client_in phase id old)).phase ≡ stage_phase ask.stage) × ((taken SaveYourselfPhase2 (client_in phase id old)).asked ≡ ask)
unfolding client_in
second_asks WantsTwo id old ask named = named_ask (at_stage Second old) ask named
second_asks phase id old ask named = absurd cc

-- No other message asks for a save.

is_save : ClientAct → Bool
is_save (Save ask) = true
is_save act = false

not_saved : (act : ClientAct) (ask : SaveAsk) → is_save act ≡ false → act ≡ Save ask → ⊥
unfolding is_save
not_saved act ask other named = false≢true (sym other ∙ ap is_save named)

neither_saves : (b : Bool) (x y : ClientAct) (ask : SaveAsk) → is_save x ≡ false → is_save y ≡ false → cond b x y ≡ Save ask → ⊥
neither_saves true x y ask other last named = not_saved x ask other named
neither_saves false x y ask other last named = not_saved y ask last named

blame_saves_not : (severity : Severity) (error : ErrorFields) (s : ClientState) (ask : SaveAsk) → blamed_act severity error s ≡ Save ask → ⊥
unfolding is_save
blame_saves_not CanContinue error s ask named = neither_saves (registers_again error s) (Again (RegisterClient [])) Nothing ask refl refl named
blame_saves_not severity error s ask named = not_saved (Refused error.class) ask refl named

pub asked_in_phase : AskedInItsPhase
unfolding client_in is_save
asked_in_phase (SaveYourself kind shutdown style fast) s ask named = save_asks s.phase s.id s.asked kind shutdown style fast ask named
asked_in_phase Interact s ask named = token_asks s.phase s.id s.asked ask named
asked_in_phase SaveYourselfPhase2 s ask named = second_asks s.phase s.id s.asked ask named
asked_in_phase (Error error) s ask named = absurd (blame_saves_not error.severity error s ask named)
asked_in_phase (RegisterClientReply id) s ask named = absurd (neither_saves (is_registering s.phase) (Registered id) Unexpected ask refl refl named)
asked_in_phase SaveComplete s ask named = absurd (neither_saves (is_done s.phase) Complete Nothing ask refl refl named)
asked_in_phase ShutdownCancelled s ask named = absurd (neither_saves (is_member s.phase) Cancelled Nothing ask refl refl named)
asked_in_phase Die s ask named = absurd (neither_saves (is_resting s.phase) ToDie Unexpected ask refl refl named)
asked_in_phase (GetPropertiesReply list) s ask named = absurd (neither_saves (is_registered s.phase) (Properties list) Unexpected ask refl refl named)
asked_in_phase m s ask named = absurd (not_saved Unexpected ask refl named)
