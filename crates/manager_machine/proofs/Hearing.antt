-- Moves that come from outside, and what they leave.
use Rattle.std.proofs.Common.{◌≡◌, ℕ, map-id}
use Rattle.std.proofs.lemmas.List.{append-nil}
use Rattle.sm_world.specs.declared.events.Order.{Order}
use Rattle.session_model.specs.declared.events.SessionEvent.TheVariants.{Joined, Operator, Ready, Tick}
use Rattle.session_model.specs.Moves.{Outside}
use Rattle.session_model.specs.Waits.{waits_ordered}
use Rattle.session_clients.specs.Clients.{held_by}
use Rattle.session_state.specs.Session.{Session, moved}

pub joined : (c : ℕ) (s : Session) → moved (Outside (Joined c)) s ≡ record s { clients = held_by (Outside (Joined c)) s.clients }
joined c s = λ i. record s { clients = held_by (Outside (Joined c)) s.clients; acts = append-nil s.acts i }

pub readied : (c : ℕ) (s : Session) → moved (Outside (Ready c)) s ≡ record s { clients = held_by (Outside (Ready c)) s.clients }
readied c s = λ i. record s { clients = held_by (Outside (Ready c)) s.clients; acts = append-nil s.acts i }

pub ticked : (milliseconds : ℕ) (s : Session) → moved (Outside (Tick milliseconds)) s ≡ record s { clients = held_by (Outside (Tick milliseconds)) s.clients }
ticked milliseconds s = λ i. record s { clients = held_by (Outside (Tick milliseconds)) s.clients; acts = append-nil s.acts i }

pub ordered : (order : Order) (s : Session) → moved (Outside (Operator order)) s ≡ record s { waits = waits_ordered order s.is_ending s.waits }
ordered order s = λ i. record s {
  clients = record { rows = map-id s.clients.rows i; registered = s.clients.registered };
  waits = waits_ordered order s.is_ending s.waits;
  acts = append-nil s.acts i;
}
