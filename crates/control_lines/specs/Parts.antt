-- The parts of some bytes around the first of one kind.
use Rattle.std.specs.Prelude.{◌≡◌, ◌≢◌, ℕ, List, ◌∷◌, ◌++◌}
use Rattle.std.specs.List.{AllByRecursion}

abbrev pub IsWithout : ℕ → List ℕ → Type 0
IsWithout byte bytes = AllByRecursion (λ b. b ≢ byte) bytes

pub record SplitsOnce (byte : ℕ) (bytes front back : List ℕ) : Type 0 where
  pub parts : bytes ≡ front ++ (byte ∷ back)
  pub first : IsWithout byte front
