-- The rows of the live connections, and how each move changes them. A row takes the very steps that the readings of a
-- history take, by its own parts alone.
use Rattle.std.specs.Prelude.{Bool, List, None, Option, [], cond, false, filter, map, not, true, ℕ, ◌++◌, ◌==◌, ◌∷◌}
use Rattle.ice_values.specs.declared.saves.Dialog.{Dialog}
use Rattle.ice_values.specs.declared.property.Property.{Property}
use Rattle.xsmp_messages.specs.declared.message.XsmpMessage.{XsmpMessage}
use Rattle.xsmp_messages.specs.declared.message.XsmpMessage.TheVariants.{RegisterClientReply}
use Rattle.session_model.specs.declared.phase.Phase.{Phase}
use Rattle.session_model.specs.declared.events.SessionEvent.TheVariants.{Joined, Left}
use Rattle.session_clients.specs.declared.client.Client.{Client}
use Rattle.session_model.specs.Moves.{Closed, Move, Outside}
use Rattle.session_model.specs.Reading.{Clients}
use Rattle.session_model.specs.Readings as of

-- a row for each live connection, in the order in which they joined, and the registered connections, in the order in
-- which they registered
pub record Held : Type 0 where
  pub rows : List Client
  pub registered : List ℕ

-- What the rows say

-- a part of the row of a connection, and this where it has none
abbrev pub part_in : {A : Type 0} → A → (Client → A) → ℕ → List Client → A
part_in none part c [] = none
part_in none part c (k ∷ ks) = cond (k.conn == c) (part k) (part_in none part c ks)

abbrev pub phase_in : ℕ → List Client → Option Phase
phase_in c rows = part_in None (λ k. k.phase) c rows

abbrev pub id_in : ℕ → List Client → Option (List ℕ)
id_in c rows = part_in None (λ k. k.id) c rows

abbrev pub table_in : ℕ → List Client → List Property
table_in c rows = part_in [] (λ k. k.table) c rows

abbrev pub saved_in : ℕ → List Client → Option (List Property)
saved_in c rows = part_in None (λ k. k.saved) c rows

abbrev pub quiet_in : ℕ → List Client → ℕ
quiet_in c rows = part_in 0 (λ k. k.quiet) c rows

abbrev pub conns_in : List Client → List ℕ
conns_in rows = map (λ k. k.conn) rows

-- all that answers and rules look at of clients
abbrev pub clients_in : Held → Clients
clients_in held = record {
  phase = λ c. phase_in c held.rows;
  id = λ c. id_in c held.rows;
  table = λ c. table_in c held.rows;
  saved = λ c. saved_in c held.rows;
  quiet = λ c. quiet_in c held.rows;
  live = conns_in held.rows;
  registered = held.registered;
}

-- Steps

-- a connection that has just joined
abbrev pub no_client : ℕ → Client
no_client c = record { conn = c; phase = None; id = None; table = []; saved = None; quiet = 0 }

-- the row of a connection after a move, where `first` gives the table with which an ID begins and these dialogs are allowed
abbrev pub client_after : Move → (List ℕ → List Property) → (Dialog → Bool) → Client → Client
client_after m first allowed k = record {
  conn = k.conn;
  phase = of.phase_after k.conn m allowed k.phase;
  id = of.id_after k.conn m k.id;
  table = of.table_after k.conn m first (λ d. k.phase) k.table;
  saved = of.saved_after k.conn m (λ d. k.phase) (λ d. k.table) k.saved;
  quiet = of.quiet_after k.conn m k.phase k.quiet;
}

abbrev pub without_row : ℕ → List Client → List Client
without_row c rows = filter (λ k. not (k.conn == c)) rows

abbrev pub rows_after : Move → (List ℕ → List Property) → (Dialog → Bool) → List Client → List Client
rows_after (Outside (Joined c)) first allowed rows = rows ++ no_client c ∷ []
rows_after (Outside (Left c)) first allowed rows = without_row c rows
rows_after (Closed c) first allowed rows = without_row c rows
rows_after m first allowed rows = map (client_after m first allowed) rows

abbrev pub held_after : Move → (List ℕ → List Property) → (Dialog → Bool) → Held → Held
held_after m first allowed held = record {
  rows = rows_after m first allowed held.rows;
  registered = of.registered_after m held.registered;
}

-- a move for which no first table and no dialog counts
abbrev pub held_by : Move → Held → Held
held_by m held = held_after m (λ id. []) (λ dialog. false) held

-- a message that gives a connection its ID
abbrev pub is_reply : XsmpMessage → Bool
is_reply (RegisterClientReply id) = true
is_reply m = false
