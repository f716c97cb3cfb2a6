-- Spellings with free bytes.
use Rattle.std.specs.Prelude.{◌≡◌, ℕ, zero, suc, ◌-◌, ◌%◌, List, [], ◌∷◌, Option, Some, None}

-- A spelling, byte by byte: the byte that stands there, or None where any byte may stand.
abbrev pub Cells : Type 0
Cells = List (Option ℕ)

-- this one byte
abbrev pub byte : ℕ → Cells
byte b = Some b ∷ []

-- these bytes
abbrev pub known : List ℕ → Cells
known [] = []
known (b ∷ bytes) = Some b ∷ known bytes

-- this many bytes, whichever they are
abbrev pub free : ℕ → Cells
free zero = []
free (suc n) = None ∷ free n

-- the spelling whose free bytes are zero
abbrev pub zeros : Cells → List ℕ
zeros [] = []
zeros (None ∷ cells) = 0 ∷ zeros cells
zeros (Some b ∷ cells) = b ∷ zeros cells

-- The bytes begin with a spelling, and the rest comes after it.
abbrev pub Begins : Cells → List ℕ → List ℕ → Type 0
Begins [] bytes rest = bytes ≡ rest
Begins (cell ∷ cells) [] rest = ⊥
Begins (None ∷ cells) (b ∷ bytes) rest = Begins cells bytes rest
Begins (Some c ∷ cells) (b ∷ bytes) rest = (b ≡ c) × Begins cells bytes rest

-- the least number of bytes that brings x to a multiple of k
abbrev pub pad_len : ℕ → ℕ → ℕ
pad_len x k = (k - x % k) % k
