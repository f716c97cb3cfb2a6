-- The sockets that a list of addresses names.
use Rattle.std.specs.Prelude.{◌≡◌, ◌≢◌, ℕ, List, [], ◌∷◌, ◌++◌}
use Rattle.std.specs.List.{AllByRecursion}
use Rattle.control_lines.specs.Parts.{IsWithout}
use Rattle.session_places.specs.Addresses.{IsAt}
use Rattle.session_places.specs.declared.places.SessionPlace.{SessionPlace}

-- addresses with a comma (44) between two
abbrev pub list_text : List (List ℕ) → List ℕ
list_text [] = []
list_text (address ∷ []) = address
list_text (address ∷ next ∷ more) = address ++ (44 ∷ list_text (next ∷ more))

-- the sockets of each address in turn
abbrev pub AreAt : List (List ℕ) → List SessionPlace → Type 0
AreAt [] places = places ≡ []
AreAt (address ∷ more) places = (here later : List SessionPlace) × IsAt address here × AreAt more later × (places ≡ here ++ later)

-- The text is a list of addresses, and the sockets are theirs.
pub record Lists (text : List ℕ) (places : List SessionPlace) : Type 0 where
  pub addresses : List (List ℕ)
  pub some : addresses ≢ []
  pub is : text ≡ list_text addresses
  pub plain : AllByRecursion (IsWithout 44) addresses
  pub each : AreAt addresses places

-- The sockets of an address were added.
pub record Adds (address : List ℕ) (old new : List SessionPlace) : Type 0 where
  pub here : List SessionPlace
  pub at : IsAt address here
  pub is : new ≡ old ++ here
