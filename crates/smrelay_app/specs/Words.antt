-- What the words of `smrelay` mean.
use Rattle.std.specs.Prelude.{◌≡◌, ℕ, List, [], ◌∷◌, length, codes, Some}
use Rattle.ice_values.specs.declared.numbers.Endian.{Endian}
use Rattle.ice_values.specs.declared.numbers.Endian.TheVariants.{Lsb, Msb}
use Rattle.word_pairs.specs.Words.{HasPath, pairs_of, value_in}

-- the paths of a relay: of its own socket, and of the manager's
pub record Places : Type 0 where
  pub socket : List ℕ
  pub to : List ℕ

-- what the words of a command line ask for, in which order
pub data Task : Type 0 where
  Rehearse : Endian → Task
  Serve : Endian → Places → Task

-- the word that names an order
abbrev pub order_word : Endian → List ℕ
order_word Lsb = codes "lsb"
order_word Msb = codes "msb"

-- `serve`, and three pairs of words behind it, in any order: one with each of the three names
pub record AreServe (words : List (List ℕ)) (order : Endian) (places : Places) : Type 0 where
  pub pairs : List (List ℕ)
  pub begins : words ≡ codes "serve" ∷ pairs
  pub six : length pairs ≡ 6
  pub socket : HasPath (pairs_of pairs) (codes "--socket") places.socket
  pub to : HasPath (pairs_of pairs) (codes "--to") places.to
  pub named : value_in (pairs_of pairs) (codes "--order") ≡ Some (order_word order)

-- The words ask for this.
abbrev pub Means : List (List ℕ) → Task → Type 0
Means words (Rehearse order) = words ≡ codes "rehearse" ∷ order_word order ∷ []
Means words (Serve order places) = AreServe words order places
