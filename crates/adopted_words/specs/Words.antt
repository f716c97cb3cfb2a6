-- Words with a blank between two.
use Rattle.std.specs.Prelude.{◌≡◌, ◌≢◌, ℕ, ◌≤◌, List, [], ◌∷◌, ◌++◌, length, IsUtf8}
use Rattle.std.specs.List.{AllByRecursion}

-- neither a blank (32) nor a control character below it
abbrev pub IsPlain : ℕ → Type 0
IsPlain b = 33 ≤ b

-- a word: a text of one or more such bytes
pub record IsWord (word : List ℕ) : Type 0 where
  pub some : 1 ≤ length word
  pub plain : AllByRecursion IsPlain word
  pub text : IsUtf8 word

abbrev pub words_text : List (List ℕ) → List ℕ
words_text [] = []
words_text (word ∷ []) = word
words_text (word ∷ next ∷ words) = word ++ (32 ∷ words_text (next ∷ words))

-- the text is these words, of which there is at least one
pub record AreWords (text : List ℕ) (words : List (List ℕ)) : Type 0 where
  pub some : words ≢ []
  pub is : text ≡ words_text words
  pub each : AllByRecursion IsWord words
