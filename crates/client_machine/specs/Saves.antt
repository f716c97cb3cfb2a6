-- What a client is asked in a save, and which answers are lawful (XSMP, chapter 7: SaveYourself to
-- SaveYourselfPhase2).
use Rattle.std.specs.Prelude.{Bool, IsTrue, false, not, true, ◌||◌}
use Rattle.ice_values.specs.declared.saves.SaveKind.TheVariants.{Local}
use Rattle.ice_values.specs.declared.saves.SaveStyle.{SaveStyle}
use Rattle.ice_values.specs.declared.saves.SaveStyle.TheVariants.{Any, Errors, Nothing}
use Rattle.ice_values.specs.declared.saves.Dialog.{Dialog}
use Rattle.ice_values.specs.declared.saves.Dialog.TheVariants.{Error as AboutError, Normal}
use Rattle.xsmp_properties.specs.Tables.{IsTableFull}
use Rattle.client_machine.specs.declared.requests.Request.{Request}
use Rattle.client_machine.specs.declared.requests.Request.TheVariants.{Done as AskDone, Interact as AskDialog, InteractDone as AskTalked, PhaseTwo as AskTwo}
use Rattle.client_machine.specs.declared.saves.SaveAnswer.{SaveAnswer}
use Rattle.client_machine.specs.declared.saves.SaveAsk.{SaveAsk}
use Rattle.client_machine.specs.declared.saves.Stage.{Stage}
use Rattle.client_machine.specs.declared.saves.Stage.TheVariants.{First, Second, Talking, TalkingTwo}
use Rattle.client_machine.specs.declared.saves.Step.{Step}
use Rattle.client_machine.specs.declared.saves.Step.TheVariants.{Done, Interact, PhaseTwo, Talked}

-- which dialogs a style allows
abbrev pub allows : SaveStyle → Dialog → Bool
allows Any dialog = true
allows Errors AboutError = true
allows Errors Normal = false
allows Nothing dialog = false

-- a shutdown can be cancelled, and nothing else
abbrev pub may_cancel : Bool → Bool → Bool
may_cancel shutdown cancel = shutdown || not cancel

-- the same save at another stage
abbrev pub at_stage : Stage → SaveAsk → SaveAsk
at_stage stage asked = record asked { stage = stage }

-- the save that a manager asks of a new client
abbrev pub first_ask : SaveAsk
first_ask = record { stage = First; kind = Local; shutdown = false; style = Nothing; fast = false }

-- The steps at each stage

abbrev pub first_step : SaveAsk → Step → Bool
first_step asked (Done success) = true
first_step asked PhaseTwo = true
first_step asked (Interact dialog) = allows asked.style dialog
first_step asked (Talked cancel) = false

abbrev pub second_step : SaveAsk → Step → Bool
second_step asked (Done success) = true
second_step asked PhaseTwo = false
second_step asked (Interact dialog) = allows asked.style dialog
second_step asked (Talked cancel) = false

abbrev pub talking_step : SaveAsk → Step → Bool
talking_step asked (Talked cancel) = may_cancel asked.shutdown cancel
talking_step asked step = false

abbrev pub is_lawful_step : Stage → SaveAsk → Step → Bool
is_lawful_step First asked step = first_step asked step
is_lawful_step Second asked step = second_step asked step
is_lawful_step Talking asked step = talking_step asked step
is_lawful_step TalkingTwo asked step = talking_step asked step

-- A lawful answer: its step has its place at the stage, and its properties fit into a table.
pub record IsLawful (asked : SaveAsk) (answer : SaveAnswer) : Type 0 where
  pub step : IsTrue (is_lawful_step asked.stage asked answer.step)
  pub few : ¬ (IsTableFull answer.set)

-- the request that says a step
abbrev pub step_request : Step → Request
step_request (Done success) = AskDone success
step_request PhaseTwo = AskTwo
step_request (Interact dialog) = AskDialog dialog
step_request (Talked cancel) = AskTalked cancel
