-- A connection departs, by the outside or by being shut.
use Rattle.std.proofs.Common.{◌≡◌, ℕ, List, [], ◌∷◌, ◌++◌, sym}
use Rattle.std.specs.Prelude.{Option}
use Rattle.std.proofs.lemmas.List.{append-nil}
use Rattle.owned_lists.specs.declared.commands.Command.{Command}
use Rattle.interact_queue.specs.Queue.{holder_without, without}
use Rattle.discard_ledger.specs.Discards.{discard_of}
use Rattle.session_model.specs.declared.events.Act.TheVariants.{Shut}
use Rattle.session_model.specs.declared.events.SessionEvent.TheVariants.{Left}
use Rattle.session_model.specs.declared.waits.Wait.{Wait}
use Rattle.session_model.specs.Moves.{Closed, Outside}
use Rattle.session_model.specs.Tables.{strays_with}
use Rattle.session_model.specs.Waits.{waits_left}
use Rattle.session_clients.specs.Clients.{phase_in, Held, held_by, table_in}
use Rattle.session_rounds.specs.Rounds.{Running, running_after}
use Rattle.session_state.specs.Session.{Session, moved}

pub left-by : (c : ℕ) (s : Session) (clients : Held) (running : Running) (waits : List Wait) (waiting : List ℕ) (holder : Option ℕ) (strays : List Command)
    → clients ≡ held_by (Outside (Left c)) s.clients → running ≡ running_after (Outside (Left c)) (λ d. phase_in d s.clients.rows) (record { round = s.round; marks = s.marks }) → waits ≡ waits_left c s.waits
    → waiting ≡ without c s.turns.waiting → holder ≡ holder_without c s.turns.holder → strays ≡ strays_with s.book (discard_of (table_in c s.clients.rows)) s.strays
    → record s { clients = clients; round = running.round; waits = waits; turns = record { waiting = waiting; holder = holder }; strays = strays; marks = running.marks } ≡ moved (Outside (Left c)) s
left-by c s clients running waits waiting holder strays k r w t h e = λ i. record s {
  clients = k i;
  round = (r i).round;
  waits = w i;
  turns = record { waiting = t i; holder = h i };
  strays = e i;
  marks = (r i).marks;
  acts = sym (append-nil s.acts) i;
}

pub closed-by : (c : ℕ) (s : Session) → record (moved (Outside (Left c)) s) { acts = (s.acts ++ []) ++ Shut c ∷ [] } ≡ moved (Closed c) s
closed-by c s = λ i. record (moved (Closed c) s) { acts = append-nil s.acts i ++ Shut c ∷ [] }
