-- What words say that stand in pairs.
use Rattle.std.specs.Prelude.{◌≡◌, ℕ, ◌≤◌, List, [], ◌∷◌, drop, length, Option, Some, None, if◌then◌else◌}
use Rattle.std.specs.Str.{bytes_eq}

-- some words, two by two
abbrev pub pairs_of : List (List ℕ) → List (List ℕ × List ℕ)
pairs_of [] = []
pairs_of (name ∷ []) = []
pairs_of (name ∷ value ∷ words) = (name, value) ∷ pairs_of words

-- the value of the first pair with this name
abbrev pub value_in : List (List ℕ × List ℕ) → List ℕ → Option (List ℕ)
value_in [] name = None
value_in (pair ∷ pairs) name = if bytes_eq pair.0 name then Some pair.1 else value_in pairs name

-- the pairs of words behind the first
abbrev pub options_of : List (List ℕ) → List (List ℕ × List ℕ)
options_of words = pairs_of (drop 1 words)

abbrev pub option_in : List (List ℕ) → List ℕ → Option (List ℕ)
option_in words name = value_in (options_of words) name

-- an option that is named takes two words
abbrev pub words_taken : Option (List ℕ) → ℕ
words_taken None = 0
words_taken (Some value) = 2

-- a path has 1 to 4,096 bytes
pub record IsPath (path : List ℕ) : Type 0 where
  pub some : 1 ≤ length path
  pub few : length path ≤ 4096

-- The pairs have a value with this name, and it is a path.
pub record HasPath (pairs : List (List ℕ × List ℕ)) (name value : List ℕ) : Type 0 where
  pub found : value_in pairs name ≡ Some value
  pub path : IsPath value
