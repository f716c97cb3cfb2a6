-- How the entries of an authority file are spelled.
use Rattle.std.specs.Prelude.{ℕ, ◌≤◌, List, ◌++◌, length, flat_map}
use Rattle.std.specs.List.{AllByRecursion}
use Rattle.ice_values.specs.Numbers.{number_bytes}
use Rattle.ice_values.specs.declared.numbers.Endian.TheVariants.{Msb}
use Rattle.ice_cookie.specs.declared.authority.AuthorityEntry.{AuthorityEntry}

-- a field: how many bytes it has, in two bytes of which the most significant comes first, and these bytes
abbrev pub field_bytes : List ℕ → List ℕ
field_bytes field = number_bytes Msb 2 (length field) ++ field

abbrev pub IsField : List ℕ → Type 0
IsField field = length field ≤ 65535

-- an entry: its five fields
abbrev pub entry_bytes : AuthorityEntry → List ℕ
entry_bytes entry = field_bytes entry.protocol ++ field_bytes entry.details ++ field_bytes entry.network ++ field_bytes entry.name ++ field_bytes entry.proof

-- none of its fields is too long
pub record HasSpelling (entry : AuthorityEntry) : Type 0 where
  pub protocol : IsField entry.protocol
  pub details : IsField entry.details
  pub network : IsField entry.network
  pub name : IsField entry.name
  pub proof : IsField entry.proof

-- a file: its entries, one after the other
abbrev pub list_bytes : List AuthorityEntry → List ℕ
list_bytes entries = flat_map entry_bytes entries

abbrev pub HaveSpelling : List AuthorityEntry → Type 0
HaveSpelling entries = AllByRecursion HasSpelling entries
