-- How `smclient` answers in a save, as its words say.
use Rattle.std.specs.Prelude.{◌≡◌, ◌⊎◌, ℕ, ℤ, pos, ◌&&◌, not, Bool, true, false, List, [], ◌∷◌, codes, if◌then◌else◌}
use Rattle.ice_values.specs.declared.property.Property.{Property}
use Rattle.ice_values.specs.declared.saves.Dialog.TheVariants.{Normal}
use Rattle.ice_values.specs.declared.saves.SaveStyle.{SaveStyle}
use Rattle.ice_values.specs.declared.saves.SaveStyle.TheVariants.{Any, Errors, Nothing}
use Rattle.client_machine.specs.declared.saves.SaveAnswer.{SaveAnswer}
use Rattle.client_machine.specs.declared.saves.SaveAsk.{SaveAsk}
use Rattle.client_machine.specs.declared.saves.Stage.{Stage}
use Rattle.client_machine.specs.declared.saves.Stage.TheVariants.{First, Second, Talking, TalkingTwo}
use Rattle.client_machine.specs.declared.saves.Step.{Step}
use Rattle.client_machine.specs.declared.saves.Step.TheVariants.{Done, Interact, PhaseTwo, Talked}
use Rattle.client_words.specs.declared.choices.Choices.{Choices}

abbrev pub is_any : SaveStyle → Bool
is_any Any = true
is_any Errors = false
is_any Nothing = false

abbrev pub is_talking : Stage → Bool
is_talking Talking = true
is_talking First = false
is_talking Second = false
is_talking TalkingTwo = false

-- With `--interact` the client talks to the user first, where any dialog is allowed and it hasn't just done so. With `--phase-two` it saves in the second phase.
abbrev pub first_step : Choices → Bool → SaveAsk → Step
first_step choices talked ask =
    if choices.interact && (is_any ask.style && not talked) then Interact Normal
    else if choices.phase_two then PhaseTwo
    else Done true

-- `talked` says whether the ask before this one was of stage Talking.
abbrev pub step_by : Stage → Choices → Bool → SaveAsk → Step
step_by First choices talked ask = first_step choices talked ask
step_by Second choices talked ask = Done true
step_by Talking choices talked ask = Talked false
step_by TalkingTwo choices talked ask = Talked false

-- which program the client is, and how it is started again
abbrev pub own_properties : List ℕ → List Property
own_properties program =
    record { name = codes "Program"; kind = codes "ARRAY8"; values = program ∷ [] }
    ∷ record { name = codes "RestartCommand"; kind = codes "LISTofARRAY8"; values = program ∷ [] } ∷ []

-- It sets them once in a save, where it is asked first.
abbrev pub set_by : Stage → Choices → Bool → List Property
set_by First choices talked = if talked then [] else own_properties choices.program.now
set_by Second choices talked = []
set_by Talking choices talked = []
set_by TalkingTwo choices talked = []

abbrev pub answer_by : Choices → Bool → SaveAsk → SaveAnswer
answer_by choices talked ask = record { set = set_by ask.stage choices talked; step = step_by ask.stage choices talked ask }

-- the answer of a client that wants for memory
abbrev pub gives_up : SaveAnswer
gives_up = record { set = []; step = Done false }

-- The answer is that of the words, or the client wants for memory, and it remembers which.
abbrev pub Remembers : Choices → Bool → ℤ → SaveAsk → SaveAnswer → Bool → ℤ → Type 0
Remembers choices talked missing ask answer after missed = (after ≡ is_talking ask.stage) × (((answer ≡ answer_by choices talked ask) × (missed ≡ missing)) ⊎ ((answer ≡ gives_up) × (missed ≡ pos 1)))

-- The answer is that of the words.
abbrev pub Answers : Choices → Bool → SaveAsk → SaveAnswer → Bool → Type 0
Answers choices talked ask answer after = (answer ≡ answer_by choices talked ask) × (after ≡ is_talking ask.stage)

-- The answer is that of the words, or the one of a client that wants for memory.
abbrev pub MayAnswer : Choices → Bool → SaveAsk → SaveAnswer → Bool → Type 0
MayAnswer choices talked ask answer after = ((answer ≡ answer_by choices talked ask) ⊎ (answer ≡ gives_up)) × (after ≡ is_talking ask.stage)
