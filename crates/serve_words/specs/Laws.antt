-- What is so of all words of `serve`.
use Rattle.std.specs.Prelude.{◌≡◌, ℕ, List}
use Rattle.serve_words.specs.Words.{Chosen, Say}

-- words say one thing at most
abbrev pub SayOne : Type 0
SayOne = (words : List (List ℕ)) (a b : Chosen) → Say words a → Say words b → a ≡ b
