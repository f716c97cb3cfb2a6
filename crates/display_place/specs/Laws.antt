-- What holds of every text and of every authority file.
use Rattle.std.specs.Prelude.{◌≡◌, ◌≢◌, ℕ, false, List, Option, Some}
use Rattle.display_place.specs.Names.{Names}
use Rattle.display_place.specs.Refusals.{IsRefused}
use Rattle.display_place.specs.Entries.{Hold}
use Rattle.display_place.specs.Choice.{is_here, entry_for}
use Rattle.display_place.specs.declared.authority.Family.TheVariants.{Local}
use Rattle.display_place.specs.declared.cookies.IpAddress.{IpAddress}
use Rattle.display_place.specs.declared.authority.DisplayEntry.{DisplayEntry}
use Rattle.display_place.specs.declared.places.DisplayName.{DisplayName}
use Rattle.display_place.specs.declared.refusals.DisplayRefusal.{DisplayRefusal}
use Rattle.display_place.specs.declared.refusals.DisplayRefusal.TheVariants.{NoMemory}

-- A text names one display at most, and one that is refused for its own sake names none.
pub record NamesOne : Type 0 where
  pub one : (text : List ℕ) (display other : DisplayName) → Names text display → Names text other → display ≡ other
  pub none : (text : List ℕ) (refusal : DisplayRefusal) (display : DisplayName) → IsRefused text refusal → Names text display → refusal ≡ NoMemory

-- Bytes hold one list of entries.
abbrev pub HoldOne : Type 0
HoldOne = (bytes : List ℕ) (entries others : List DisplayEntry) → Hold bytes entries → Hold bytes others → entries ≡ others

-- The entry that is taken for a display of another machine isn't one for this machine's own sockets.
abbrev pub OwnStaysHere : Type 0
OwnStaysHere = (number : ℕ) (machine : List ℕ) (reached : Option IpAddress) (entries : List DisplayEntry) (entry : DisplayEntry) → is_here reached ≡ false → entry_for number machine reached entries ≡ Some entry → entry.family ≢ Local
