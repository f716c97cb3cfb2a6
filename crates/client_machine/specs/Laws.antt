-- Laws for those who answer a client's saves.
use Rattle.std.specs.Prelude.{◌≡◌}
use Rattle.xsmp_messages.specs.declared.message.XsmpMessage.{XsmpMessage}
use Rattle.client_machine.specs.Asking.{may_ask}
use Rattle.client_machine.specs.Phases.{ClientState}
use Rattle.client_machine.specs.Saves.{is_lawful_step, step_request}
use Rattle.client_machine.specs.Taking.{act_taken, taken}
use Rattle.client_machine.specs.declared.acts.ClientAct.TheVariants.{Save}
use Rattle.client_machine.specs.declared.phase.ClientPhase.{ClientPhase}
use Rattle.client_machine.specs.declared.phase.ClientPhase.TheVariants.{Interacting, InteractingTwo, Saving, SavingTwo}
use Rattle.client_machine.specs.declared.saves.SaveAsk.{SaveAsk}
use Rattle.client_machine.specs.declared.saves.Stage.{Stage}
use Rattle.client_machine.specs.declared.saves.Stage.TheVariants.{First, Second, Talking, TalkingTwo}
use Rattle.client_machine.specs.declared.saves.Step.{Step}

-- the phase in which a client is asked at a stage
abbrev pub stage_phase : Stage → ClientPhase
stage_phase First = Saving
stage_phase Second = SavingTwo
stage_phase Talking = Interacting
stage_phase TalkingTwo = InteractingTwo

-- A client that was asked is in the phase of the stage, and keeps what it was asked.
abbrev pub AskedInItsPhase : Type 0
AskedInItsPhase = (m : XsmpMessage) (s : ClientState) (ask : SaveAsk) → act_taken m s ≡ Save ask → ((taken m s).phase ≡ stage_phase ask.stage) × ((taken m s).asked ≡ ask)

-- In the phase of a stage, a client may send exactly the steps that are lawful there.
abbrev pub LawfulStepsHaveTheirPlace : Type 0
LawfulStepsHaveTheirPlace = (stage : Stage) (s : ClientState) (step : Step) → s.phase ≡ stage_phase stage → is_lawful_step stage s.asked step ≡ may_ask (step_request step) s
