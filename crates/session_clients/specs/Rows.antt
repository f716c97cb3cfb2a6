-- What one row becomes, and how a row is found.
use Rattle.std.specs.Prelude.{Bool, List, None, Option, Some, [], drop, false, find, length, take, ℕ, ◌==◌, ◌≡◌, ◌≤◌}
use Rattle.ice_values.specs.declared.saves.Dialog.{Dialog}
use Rattle.ice_values.specs.declared.property.Property.{Property}
use Rattle.xsmp_messages.specs.declared.message.XsmpMessage.{XsmpMessage}
use Rattle.xsmp_messages.specs.declared.message.XsmpMessage.TheVariants.{RegisterClientReply, SetProperties}
use Rattle.session_model.specs.declared.events.SessionEvent.TheVariants.{Said}
use Rattle.interact_queue.specs.Queue.{is_in}
use Rattle.session_clients.specs.declared.client.Client.{Client}
use Rattle.session_model.specs.Moves.{Gave, Move, Outside}
use Rattle.session_clients.specs.Clients.{client_after, conns_in}

-- a row after a move for which no first table and no dialog counts
abbrev pub client_by : Move → Client → Client
client_by m k = client_after m (λ id. []) (λ dialog. false) k

-- a row after a connection said this, where these dialogs are allowed
abbrev pub client_heard : ℕ → XsmpMessage → (Dialog → Bool) → Client → Client
client_heard c m allowed k = client_after (Outside (Said c m 0 [])) (λ id. []) allowed k

-- a row after a connection got an ID, and this as its first table
abbrev pub client_registered : ℕ → List ℕ → List Property → Client → Client
client_registered c id table k = client_after (Gave c (RegisterClientReply id)) (λ other. table) (λ dialog. false) k

-- a row after a connection set all these properties
abbrev pub client_setting : ℕ → List Property → Client → Client
client_setting c list k = client_by (Outside (Said c (SetProperties list) 0 [])) k

-- the first row of a connection
abbrev pub row_in : ℕ → List Client → Option Client
row_in c rows = find (λ k. k.conn == c) rows

-- a row, where there is one, is of this connection
abbrev pub is_of : ℕ → Option Client → Bool
is_of c None = false
is_of c (Some k) = k.conn == c

-- all rows of a connection stand from one place to another
pub record StandsWithin (c : ℕ) (rows : List Client) (start end : ℕ) : Type 0 where
  pub in_order : start ≤ end
  pub inside : end ≤ length rows
  pub none_before : is_in c (conns_in (take start rows)) ≡ false
  pub none_behind : is_in c (conns_in (drop end rows)) ≡ false

-- a part of a row, and this where there is none
abbrev pub part_of : {A : Type 0} → A → (Client → A) → Option Client → A
part_of none part None = none
part_of none part (Some k) = part k
