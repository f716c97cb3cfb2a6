-- The lines of a text.
use Rattle.std.specs.Prelude.{ℕ, ◌==◌, List, [], ◌∷◌, if◌then◌else◌}

-- a byte before the first of some lines
abbrev pub before_lines : ℕ → List (List ℕ) → List (List ℕ)
before_lines b [] = (b ∷ []) ∷ []
before_lines b (line ∷ lines) = (b ∷ line) ∷ lines

-- The lines of a text, without their newlines (10). The last may lack its newline.
abbrev pub lines_of : List ℕ → List (List ℕ)
lines_of [] = []
lines_of (b ∷ bytes) = if b == 10 then [] ∷ lines_of bytes else before_lines b (lines_of bytes)
