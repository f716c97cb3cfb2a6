-- The lines of a trace against those of the machine.
use Rattle.std.specs.Prelude.{◌≡◌, ◌⊎◌, ℕ, List, [], ◌∷◌, ◌++◌, length, codes}

-- A line of a trace is this one of the machine's, to the byte. Whether a command could be started makes no difference.
abbrev pub IsLineOf : List ℕ → List ℕ → Type 0
IsLineOf made line = (line ≡ made) ⊎ ((text : List ℕ) × (made ≡ codes "started " ++ text) × (line ≡ codes "unstarted " ++ text))

-- The lines are those of the machine, one by one.
abbrev pub AreLinesOf : List (List ℕ) → List (List ℕ) → Type 0
AreLinesOf [] [] = Unit {0}
AreLinesOf [] (line ∷ lines) = ⊥
AreLinesOf (own ∷ made) [] = ⊥
AreLinesOf (own ∷ made) (line ∷ lines) = IsLineOf own line × AreLinesOf made lines

-- The first of the lines isn't the one that the machine gives next: it is another, or the machine gives none, or a line is missing.
abbrev pub PartAtOnce : List (List ℕ) → List (List ℕ) → Type 0
PartAtOnce [] [] = ⊥
PartAtOnce [] (line ∷ lines) = Unit {0}
PartAtOnce (own ∷ made) [] = Unit {0}
PartAtOnce (own ∷ made) (line ∷ lines) = ¬ (IsLineOf own line)

-- The lines go on with those of the machine, and these are left.
pub record GoesOn (made lines left : List (List ℕ)) : Type 0 where
  pub front : List (List ℕ)
  pub parts : lines ≡ front ++ left
  pub are : AreLinesOf made front

-- Up to what is left the lines are those of the machine, and there they part.
pub record PartAt (made lines left : List (List ℕ)) : Type 0 where
  pub done : List (List ℕ)
  pub next : List (List ℕ)
  pub made_parts : made ≡ done ++ next
  pub goes_on : GoesOn done lines left
  pub part : PartAtOnce next left

-- They part, and so many are left.
abbrev pub PartWith : List (List ℕ) → List (List ℕ) → ℕ → Type 0
PartWith made lines n = (left : List (List ℕ)) × PartAt made lines left × (n ≡ length left)
