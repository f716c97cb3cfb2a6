-- The words that ask what stands in a store.
use Rattle.std.specs.Prelude.{Bool, true, false, List, [], ◌∷◌, codes, ℕ}

abbrev pub check_words : List ℕ → Bool → List (List ℕ)
check_words store false = codes "store-check" ∷ codes "--store" ∷ store ∷ []
check_words store true = codes "store-check" ∷ codes "--store" ∷ store ∷ codes "--json" ∷ []

-- the words that ask which sessions it has
abbrev pub sessions_words : List ℕ → List (List ℕ)
sessions_words store = codes "sessions" ∷ codes "--store" ∷ store ∷ []
