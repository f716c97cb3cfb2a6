-- The words of clients that end them with a NUL, as programs on Xt do, which XSMP doesn't ask for.
use Rattle.std.specs.Prelude.{ℕ, ◌+◌, ◌==◌, if◌then◌else◌, List, length, take, Option, Some, None, position}

-- A word whose first NUL is its last byte is meant without it.
abbrev pub ended_at : Option ℕ → List ℕ → List ℕ
ended_at None word = word
ended_at (Some at) word = if at + 1 == length word then take at word else word

abbrev pub without_nul : List ℕ → List ℕ
without_nul word = ended_at (position (λ b. b == 0) word) word
