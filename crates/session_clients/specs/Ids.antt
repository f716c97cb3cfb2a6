-- The IDs of the registered connections.
use Rattle.std.specs.Prelude.{List, None, Option, Some, [], cond, filter_map, length, nat_lt, option_map, slice_index, ℕ, ◌-◌, ◌∷◌}
use Rattle.std.specs.Int.{from_be_bytes, w32}
use Rattle.std.specs.Str.{bytes_eq}
use Rattle.session_model.specs.Reading.{Clients}

-- a registered connection, and the ID under which it registered
pub record Registered : Type 0 where
  pub conn : ℕ
  pub id : List ℕ

abbrev pub registered_under : ℕ → List ℕ → Registered
registered_under c id = record { conn = c; id = id }

-- the registered connections that have an ID, in the order in which they registered
abbrev pub registered_ids : Clients → List Registered
registered_ids clients = filter_map (λ c. option_map (registered_under c) (clients.id c)) clients.registered

-- the byte of an ID with so many places from it to the end
abbrev pub last : ℕ → List ℕ → ℕ
last places id = slice_index id (length id - places)

-- the last four bytes of an ID as a number; 0 where it has fewer
abbrev pub end_of : List ℕ → ℕ
end_of id = cond (nat_lt (length id) 4) 0 (from_be_bytes w32 (last 4 id ∷ last 3 id ∷ last 2 id ∷ last 1 id ∷ []))

-- the first of these that registered under this ID
abbrev pub conn_of : List ℕ → List Registered → Option ℕ
conn_of id [] = None
conn_of id (k ∷ ks) = cond (bytes_eq id k.id) (Some k.conn) (conn_of id ks)
