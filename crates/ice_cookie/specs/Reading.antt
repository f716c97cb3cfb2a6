-- Authority entries read from left to right: what stands at the front of some bytes, and the bytes after it.
use Rattle.std.specs.Prelude.{ℕ, List, Option, Some}
use Rattle.ice_values.specs.Reading.{◌>>=◌, card_at, bytes_at}
use Rattle.ice_values.specs.declared.numbers.Endian.TheVariants.{Msb}
use Rattle.ice_cookie.specs.declared.authority.AuthorityEntry.{AuthorityEntry}

unfoldable pub field_at : List ℕ → Option (List ℕ × List ℕ)
field_at bytes = do
  n ← card_at Msb 2 bytes
  bytes_at n.0 n.1

unfoldable pub entry_at : List ℕ → Option (AuthorityEntry × List ℕ)
entry_at bytes = do
  protocol ← field_at bytes
  details ← field_at protocol.1
  network ← field_at details.1
  name ← field_at network.1
  proof ← field_at name.1
  Some (record { protocol = protocol.0; details = details.0; network = network.0; name = name.0; proof = proof.0 }, proof.1)
