-- The entries of an X authority file.
use Rattle.std.specs.Prelude.{◌≡◌, ℕ, ◌==◌, List, [], ◌∷◌, Option, Some, None, if◌then◌else◌}
use Rattle.ice_values.specs.Reading.{◌>>=◌, card_at}
use Rattle.ice_values.specs.declared.numbers.Endian.TheVariants.{Msb}
use Rattle.ice_cookie.specs.Reading.{field_at}
use Rattle.display_place.specs.declared.authority.Family.{Family}
use Rattle.display_place.specs.declared.authority.Family.TheVariants.{Internet, InternetV6, Local, Any, Other}
use Rattle.display_place.specs.declared.authority.DisplayEntry.{DisplayEntry}

abbrev pub family_of : ℕ → Family
family_of n =
    if n == 0 then Internet
    else if n == 6 then InternetV6
    else if n == 256 then Local
    else if n == 65535 then Any
    else Other n

-- an entry at the front: its family in two bytes, the most significant first, and four fields as an ICE authority file has them
unfoldable pub entry_at : List ℕ → Option (DisplayEntry × List ℕ)
entry_at bytes = do
  family ← card_at Msb 2 bytes
  address ← field_at family.1
  number ← field_at address.1
  name ← field_at number.1
  proof ← field_at name.1
  Some (record { family = family_of family.0; address = address.0; number = number.0; name = name.0; proof = proof.0 }, proof.1)

-- read one after the other there are these entries, and then no whole one
abbrev pub Hold : List ℕ → List DisplayEntry → Type 0
Hold bytes [] = entry_at bytes ≡ None
Hold bytes (entry ∷ entries) = (rest : List ℕ) × (entry_at bytes ≡ Some (entry, rest)) × Hold rest entries
