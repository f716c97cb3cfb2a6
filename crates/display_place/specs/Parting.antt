-- The parts of some bytes around the last of one kind.
use Rattle.std.specs.Prelude.{◌≡◌, ℕ, List, ◌∷◌, ◌++◌}
use Rattle.control_lines.specs.Parts.{IsWithout}

pub record SplitsLast (byte : ℕ) (bytes front back : List ℕ) : Type 0 where
  pub parts : bytes ≡ front ++ (byte ∷ back)
  pub last : IsWithout byte back
