-- Moves by which a round begins and ends.
use Rattle.std.proofs.Common.{◌≡◌, ℕ, Bool, cond, ◌||◌, List, [], drop, sym, map-id}
use Rattle.std.proofs.lemmas.List.{append-nil}
use Rattle.round_agreement.specs.declared.wanted.Wanted.{Wanted}
use Rattle.session_model.specs.declared.waits.Wait.{Wait}
use Rattle.session_model.specs.Moves.{Agreed, Began, Cancelled, Over}
use Rattle.session_model.specs.Phases.{is_shutdown}
use Rattle.session_model.specs.Reading.{wanted_in}
use Rattle.session_clients.specs.Clients.{phase_in}
use Rattle.session_rounds.specs.Rounds.{Running, running_after}
use Rattle.session_state.specs.Session.{Session, moved}

pub over-by : (s : Session) (running : Running) → running ≡ running_after Over (λ c. phase_in c s.clients.rows) (record { round = s.round; marks = s.marks }) → record s { round = running.round; marks = running.marks } ≡ moved Over s
over-by s running e = λ i. record s {
  clients = record { rows = sym (map-id s.clients.rows) i; registered = s.clients.registered };
  round = (e i).round;
  marks = (e i).marks;
  acts = sym (append-nil s.acts) i;
}

pub cancelled-by : (s : Session) (running : Running) → running ≡ running_after Cancelled (λ c. phase_in c s.clients.rows) (record { round = s.round; marks = s.marks }) → record s { round = running.round; marks = running.marks } ≡ moved Cancelled s
cancelled-by s running e = λ i. record s {
  clients = record { rows = sym (map-id s.clients.rows) i; registered = s.clients.registered };
  round = (e i).round;
  marks = (e i).marks;
  acts = sym (append-nil s.acts) i;
}

pub agreed-by : (s : Session) (waits : List Wait) (ending : Bool) (running : Running) → waits ≡ cond (is_shutdown (wanted_in s.round)) [] s.waits → ending ≡ (s.is_ending || is_shutdown (wanted_in s.round))
    → running ≡ running_after Agreed (λ c. phase_in c s.clients.rows) (record { round = s.round; marks = s.marks }) → record s { round = running.round; waits = waits; is_ending = ending; marks = running.marks } ≡ moved Agreed s
agreed-by s waits ending running w d e = λ i. record s {
  clients = record { rows = sym (map-id s.clients.rows) i; registered = s.clients.registered };
  round = (e i).round;
  waits = w i;
  is_ending = d i;
  marks = (e i).marks;
  acts = sym (append-nil s.acts) i;
}

pub began-by : (conns : List ℕ) (wanted : Wanted) (s : Session) (running : Running) (waits : List Wait) → running ≡ running_after (Began conns wanted) (λ c. phase_in c s.clients.rows) (record { round = s.round; marks = s.marks })
    → waits ≡ drop 1 s.waits → record s { round = running.round; waits = waits; marks = running.marks } ≡ moved (Began conns wanted) s
began-by conns wanted s running waits e d = λ i. record s {
  clients = record { rows = sym (map-id s.clients.rows) i; registered = s.clients.registered };
  round = (e i).round;
  waits = d i;
  marks = (e i).marks;
  acts = sym (append-nil s.acts) i;
}
