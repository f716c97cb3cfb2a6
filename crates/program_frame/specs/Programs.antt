-- What a program that reads its input and prints does, and what its status says.
use Rattle.std.specs.Prelude.{◌≡◌, ℕ, List, ◌++◌, Option, None, Result, Ok, Err, IfSome}
use Rattle.sm_world.specs.declared.effects.Effect.{Effect}
use Rattle.program_frame.specs.Printing.{ArePrinted, Tries}

-- A run printed some texts and did nothing else that a world tells, and this holds of the console's input and of the texts.
pub record RunsAs (told : Option (List ℕ)) (Holds : List ℕ → List (List ℕ) → Type 0) (effects : List Effect) : Type 0 where
  -- the console's input, which is the world's where the world tells it
  pub input : List ℕ
  pub is_input : IfSome told (λ bytes. bytes ≡ input)
  pub texts : List (List ℕ)
  pub printed : ArePrinted texts effects
  pub holds : Holds input texts

-- A call answered this status: its run had an ending with this status, and then the ending's line was tried once.
pub record AnswersAs {Ending : Type 0} (Runs : Ending → List Effect → Type 0) (status_of : Ending → ℕ) (line_of : Ending → Option (List ℕ)) (status : ℕ) (effects : List Effect) : Type 0 where
  pub ending : Ending
  pub number : status ≡ status_of ending
  pub first : List Effect
  pub last : List Effect
  pub parts : effects ≡ first ++ last
  pub ran : Runs ending first
  pub tried : Tries (line_of ending) last

-- the status of an ending: 0 where it is no fault
abbrev pub status_by : {Fault : Type 0} → (Fault → ℕ) → Result (Unit {0}) Fault → ℕ
status_by fault_status (Ok x) = 0
status_by fault_status (Err fault) = fault_status fault

-- the line of an ending: none where it is no fault
abbrev pub line_by : {Fault : Type 0} → (Fault → Option (List ℕ)) → Result (Unit {0}) Fault → Option (List ℕ)
line_by fault_line (Ok x) = None
line_by fault_line (Err fault) = fault_line fault
