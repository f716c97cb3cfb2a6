-- The display that a text names: [PROTOCOL/][HOST]:NUMBER[.SCREEN], or a path.
use Rattle.std.specs.Prelude.{◌≡◌, ◌⊎◌, ℕ, ◌<◌, Bool, false, true, ◌==◌, List, [], ◌∷◌, ◌++◌}
use Rattle.std.specs.Fmt.{decimal}
use Rattle.display_place.specs.Parting.{SplitsLast}
use Rattle.display_place.specs.Places.{SaysPlace}
use Rattle.display_place.specs.declared.places.DisplayName.{DisplayName}
use Rattle.display_place.specs.declared.places.Place.TheVariants.{Path}

-- a path begins with a slash (47)
abbrev pub is_path : List ℕ → Bool
is_path [] = false
is_path (b ∷ text) = b == 47

-- the whole text is the path of the socket
pub record IsPath (text : List ℕ) (display : DisplayName) : Type 0 where
  pub begins : is_path text ≡ true
  pub place : display.place ≡ Path text
  pub number : display.number ≡ 0
  pub screen : display.screen ≡ 0

-- A number that has a port, alone for screen 0, or with a dot (46) and the screen.
pub record SaysNumbers (tail : List ℕ) (number screen : ℕ) : Type 0 where
  pub has_port : number < 59536
  pub is_screen : screen < 256
  pub text : ((tail ≡ decimal number) × (screen ≡ 0)) ⊎ (tail ≡ decimal number ++ (46 ∷ decimal screen))

-- what stands before the last colon (58) says where, and what stands behind it the numbers
pub record IsName (text : List ℕ) (display : DisplayName) : Type 0 where
  pub front : List ℕ
  pub tail : List ℕ
  pub no_path : is_path text ≡ false
  pub split : SplitsLast 58 text front tail
  pub place : SaysPlace front display.number display.place
  pub numbers : SaysNumbers tail display.number display.screen

abbrev pub Names : List ℕ → DisplayName → Type 0
Names text display = IsPath text display ⊎ IsName text display
