-- The lines that a client noted, as they are printed.
use Rattle.std.specs.Prelude.{◌≡◌, ℕ, List, [], ◌++◌, map, Result, IsOk}
use Rattle.sm_world.specs.declared.effects.Effect.{Effect}
use Rattle.sm_world.specs.declared.failures.Failure.{Failure}
use Rattle.program_frame.specs.Printing.{ArePrinted, line}

-- The first of these lines were printed, each as a text with its newline, and all of them where nothing failed.
pub record PrintsFirst (lines : List (List ℕ)) (result : Result (Unit {0}) Failure) (effects : List Effect) : Type 0 where
  pub done : List (List ℕ)
  pub left : List (List ℕ)
  pub parts : done ++ left ≡ lines
  pub all : IsOk result → left ≡ []
  pub printed : ArePrinted (map line done) effects
