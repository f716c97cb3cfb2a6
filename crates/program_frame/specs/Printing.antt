-- What a program prints.
use Rattle.std.specs.Prelude.{◌≡◌, ◌⊎◌, ℕ, List, [], ◌∷◌, ◌++◌, map, Option, Some, None, Ok}
use Rattle.sm_world.specs.Outside.{Outside, UsesConsole}
use Rattle.sm_world.specs.declared.effects.Effect.{Effect}
use Rattle.sm_world.specs.declared.effects.Effect.TheVariants.{Printed}

-- a line with its newline (10)
abbrev pub line : List ℕ → List ℕ
line words = words ++ (10 ∷ [])

-- The line, where there is one, was tried once: it was printed, or its printing was refused.
abbrev pub IsTried : Option (List ℕ) → List (List ℕ) → Type 0
IsTried None texts = texts ≡ []
IsTried (Some text) texts = (texts ≡ text ∷ []) ⊎ (texts ≡ [])

-- These texts were printed, in this order, and nothing else was done that a world tells.
abbrev pub ArePrinted : List (List ℕ) → List Effect → Type 0
ArePrinted texts effects = effects ≡ map Printed texts

-- Nothing was done but that the line was tried once.
pub record Tries (text : Option (List ℕ)) (effects : List Effect) : Type 0 where
  pub texts : List (List ℕ)
  pub printed : ArePrinted texts effects
  pub tried : IsTried text texts

-- No count but the console's changed, and this one didn't fall; the store, what is still to come and the input are as they were.
pub record OnlyPrints (old new : Outside) : Type 0 where
  pub uses : UsesConsole {A = Unit {0}} old new (Ok tt)
  pub input : new.input ≡ old.input
