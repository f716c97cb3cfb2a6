-- Why a text names no display.
use Rattle.std.specs.Prelude.{◌≡◌, ◌≢◌, ◌⊎◌, ℕ, ◌<◌, false, true, ◌||◌, List, codes, Result, Ok, Err}
use Rattle.std.specs.Fmt.{decimal}
use Rattle.std.specs.Str.{bytes_eq}
use Rattle.control_lines.specs.Parts.{IsWithout, SplitsOnce}
use Rattle.display_place.specs.Parting.{SplitsLast}
use Rattle.display_place.specs.Places.{is_own, is_network}
use Rattle.display_place.specs.Names.{is_path}
use Rattle.display_place.specs.declared.places.DisplayName.{DisplayName}
use Rattle.display_place.specs.declared.refusals.DisplayRefusal.{DisplayRefusal}
use Rattle.display_place.specs.declared.refusals.DisplayRefusal.TheVariants.{NoNumber, BadProtocol, BadHost, BadNumber, BadScreen, NoMemory}

-- the protocol is none of the three
pub record HasBadProtocol (front : List ℕ) : Type 0 where
  pub protocol : List ℕ
  pub host : List ℕ
  pub split : SplitsLast 47 front protocol host
  pub unknown : (bytes_eq protocol (codes "unix") || is_network protocol) ≡ false

-- a network's protocol, and no other host
pub record HasBadHost (front : List ℕ) : Type 0 where
  pub protocol : List ℕ
  pub host : List ℕ
  pub split : SplitsLast 47 front protocol host
  pub local : bytes_eq protocol (codes "unix") ≡ false
  pub network : is_network protocol ≡ true
  pub own : is_own host ≡ true

-- what spells no number below a limit
abbrev pub IsNone : ℕ → List ℕ → Type 0
IsNone limit digits = (n : ℕ) → n < limit → digits ≢ decimal n

-- what stands before the first dot, or all, is no number with a port
abbrev pub HasBadNumber : List ℕ → Type 0
HasBadNumber tail = (IsWithout 46 tail × IsNone 59536 tail) ⊎ ((digits screen : List ℕ) × SplitsOnce 46 tail digits screen × IsNone 59536 digits)

-- what stands behind the first dot is no screen
abbrev pub HasBadScreen : List ℕ → Type 0
HasBadScreen tail = (digits screen : List ℕ) × SplitsOnce 46 tail digits screen × IsNone 256 screen

-- why a front says no place, and a tail no numbers
abbrev pub IsFrontRefused : List ℕ → DisplayRefusal → Type 0
IsFrontRefused front NoNumber = ⊥
IsFrontRefused front BadProtocol = HasBadProtocol front
IsFrontRefused front BadHost = HasBadHost front
IsFrontRefused front BadNumber = ⊥
IsFrontRefused front BadScreen = ⊥
IsFrontRefused front NoMemory = Unit {0}

abbrev pub IsTailRefused : List ℕ → DisplayRefusal → Type 0
IsTailRefused tail NoNumber = ⊥
IsTailRefused tail BadProtocol = ⊥
IsTailRefused tail BadHost = ⊥
IsTailRefused tail BadNumber = HasBadNumber tail
IsTailRefused tail BadScreen = HasBadScreen tail
IsTailRefused tail NoMemory = Unit {0}

-- around the last colon one part is refused
pub record IsPartRefused (text : List ℕ) (refusal : DisplayRefusal) : Type 0 where
  pub front : List ℕ
  pub tail : List ℕ
  pub no_path : is_path text ≡ false
  pub split : SplitsLast 58 text front tail
  pub part : IsFrontRefused front refusal ⊎ IsTailRefused tail refusal

-- want of memory has no cause in a text
abbrev pub IsRefused : List ℕ → DisplayRefusal → Type 0
IsRefused text NoNumber = (is_path text ≡ false) × IsWithout 58 text
IsRefused text BadProtocol = IsPartRefused text BadProtocol
IsRefused text BadHost = IsPartRefused text BadHost
IsRefused text BadNumber = IsPartRefused text BadNumber
IsRefused text BadScreen = IsPartRefused text BadScreen
IsRefused text NoMemory = Unit {0}

-- Where a text names a display, the answer is this one, unless memory was wanting.
abbrev pub Gives : Result DisplayName DisplayRefusal → DisplayName → Type 0
Gives (Ok named) display = named ≡ display
Gives (Err refusal) display = refusal ≡ NoMemory
