-- Which entry of an authority file is for a display.
use Rattle.std.specs.Prelude.{ℕ, Bool, false, true, ◌&&◌, ◌||◌, List, [], ◌∷◌, codes, Option, Some, None, find}
use Rattle.std.specs.Str.{bytes_eq}
use Rattle.std.specs.Fmt.{decimal}
use Rattle.display_place.specs.declared.authority.Family.{Family}
use Rattle.display_place.specs.declared.authority.Family.TheVariants.{Internet, InternetV6, Local, Any, Other}
use Rattle.display_place.specs.declared.authority.DisplayEntry.{DisplayEntry}
use Rattle.display_place.specs.declared.cookies.IpAddress.{IpAddress}
use Rattle.display_place.specs.declared.cookies.IpAddress.TheVariants.{V4, V6}

unfoldable pub cookie_name : List ℕ
cookie_name = codes "MIT-MAGIC-COOKIE-1"

-- the address at which the display was reached is this one
abbrev pub is_v4 : Option IpAddress → List ℕ → Bool
is_v4 (Some (V4 bytes)) address = bytes_eq address bytes
is_v4 (Some (V6 bytes)) address = false
is_v4 None address = false

abbrev pub is_v6 : Option IpAddress → List ℕ → Bool
is_v6 (Some (V4 bytes)) address = false
is_v6 (Some (V6 bytes)) address = bytes_eq address bytes
is_v6 None address = false

unfoldable pub loopback_v4 : List ℕ
loopback_v4 = 127 ∷ 0 ∷ 0 ∷ 1 ∷ []

unfoldable pub loopback_v6 : List ℕ
loopback_v6 = 0 ∷ 0 ∷ 0 ∷ 0 ∷ 0 ∷ 0 ∷ 0 ∷ 0 ∷ 0 ∷ 0 ∷ 0 ∷ 0 ∷ 0 ∷ 0 ∷ 0 ∷ 1 ∷ []

-- the display is on this machine: it was reached at a socket of its own, or over the loopback
abbrev pub is_here : Option IpAddress → Bool
is_here None = true
is_here (Some (V4 bytes)) = bytes_eq bytes loopback_v4
is_here (Some (V6 bytes)) = bytes_eq bytes loopback_v6

-- an address is good by the machine's name where the display is on it, for every place, or for the address that was reached
abbrev pub is_good_at : List ℕ → Option IpAddress → Family → List ℕ → Bool
is_good_at machine reached Internet address = is_v4 reached address
is_good_at machine reached InternetV6 address = is_v6 reached address
is_good_at machine reached Local address = is_here reached && bytes_eq address machine
is_good_at machine reached Any address = true
is_good_at machine reached (Other number) address = false

-- an entry's number is the display's, or none, which is good for all
abbrev pub is_of_number : List ℕ → List ℕ → Bool
is_of_number digits number = bytes_eq number [] || bytes_eq number digits

-- an entry has a cookie, is of the display's number, and its address is good
abbrev pub is_for : List ℕ → List ℕ → Option IpAddress → DisplayEntry → Bool
is_for digits machine reached entry =
    bytes_eq entry.name cookie_name && (is_of_number digits entry.number && is_good_at machine reached entry.family entry.address)

-- the first of them
abbrev pub entry_for : ℕ → List ℕ → Option IpAddress → List DisplayEntry → Option DisplayEntry
entry_for number machine reached entries = find (is_for (decimal number) machine reached) entries
