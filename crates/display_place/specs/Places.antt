-- Where a display is, by what stands in its name before the colon: [PROTOCOL/][HOST].
use Rattle.std.specs.Prelude.{◌≡◌, ◌⊎◌, ℕ, ◌+◌, Bool, ◌||◌, List, [], codes, Option, Some, None, if◌then◌else◌}
use Rattle.std.specs.Str.{bytes_eq}
use Rattle.control_lines.specs.Parts.{IsWithout}
use Rattle.display_place.specs.Parting.{SplitsLast}
use Rattle.display_place.specs.declared.places.Place.{Place}
use Rattle.display_place.specs.declared.places.Place.TheVariants.{Local, Host}

-- no host, or the word unix: this machine
abbrev pub is_own : List ℕ → Bool
is_own host = bytes_eq host [] || bytes_eq host (codes "unix")

abbrev pub is_network : List ℕ → Bool
is_network protocol = bytes_eq protocol (codes "tcp") || bytes_eq protocol (codes "inet")

-- display N of a host has port 6000 + N
abbrev pub host_place : List ℕ → ℕ → Place
host_place host number = Host host (6000 + number)

-- without a protocol
abbrev pub plain_place : List ℕ → ℕ → Place
plain_place host number = if is_own host then Local else host_place host number

-- with one: unix is this machine whatever the host, and tcp and inet are for another
abbrev pub place_by : List ℕ → List ℕ → ℕ → Option Place
place_by protocol host number =
    if bytes_eq protocol (codes "unix") then Some Local
    else if is_network protocol then (if is_own host then None else Some (host_place host number))
    else None

-- a host alone (47 is the slash)
pub record IsPlain (front : List ℕ) (number : ℕ) (place : Place) : Type 0 where
  pub whole : IsWithout 47 front
  pub is : place ≡ plain_place front number

-- a protocol, a slash and a host
pub record IsBy (front : List ℕ) (number : ℕ) (place : Place) : Type 0 where
  pub protocol : List ℕ
  pub host : List ℕ
  pub split : SplitsLast 47 front protocol host
  pub is : place_by protocol host number ≡ Some place

abbrev pub SaysPlace : List ℕ → ℕ → Place → Type 0
SaysPlace front number place = IsPlain front number place ⊎ IsBy front number place
