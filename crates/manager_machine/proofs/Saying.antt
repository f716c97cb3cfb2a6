-- A client says something, and a DiscardCommand of its may stop standing by that.
use Rattle.std.proofs.Common.{◌≡◌, refl, ℕ, Bool, true, false, cond, List, [], ◌∷◌, map, sym, ap, ◌∙◌, arith}
use Rattle.std.specs.Prelude.{Option, None, codes, ◌==◌}
use Rattle.std.specs.List.{list_any}
use Rattle.std.specs.Str.{bytes_eq}
use Rattle.std.proofs.lemmas.Bool.Decides.{nat_tests}
use Rattle.std.proofs.lemmas.List.{append-nil}
use Rattle.owned_lists.specs.declared.commands.Command.{Command}
use Rattle.ice_values.specs.declared.saves.Dialog.{Dialog}
use Rattle.ice_values.specs.declared.property.Property.{Property}
use Rattle.xsmp_messages.specs.declared.message.XsmpMessage.{XsmpMessage}
use Rattle.xsmp_messages.specs.declared.message.XsmpMessage.TheVariants.{DeleteProperties, SetProperties}
use Rattle.xsmp_properties.specs.Tables.{find_property, is_named, set_all, without_names}
use Rattle.round_agreement.specs.Agreement.{Agreement}
use Rattle.discard_ledger.specs.Discards.{discard_of}
use Rattle.session_model.specs.declared.phase.Phase.{Phase}
use Rattle.session_model.specs.declared.events.SessionEvent.TheVariants.{Said}
use Rattle.session_model.specs.declared.waits.Wait.{Wait}
use Rattle.session_model.specs.declared.marks.Marks.{Marks}
use Rattle.session_model.specs.Moves.{Outside}
use Rattle.session_model.specs.Phases.{is_bound, may_interact}
use Rattle.session_model.specs.Reading.{wanted_in}
use Rattle.session_model.specs.Readings.{newcomer_said}
use Rattle.session_model.specs.Tables.{first_table, is_full, set_table, stopped, stopped_said, strays_with, table_said}
use Rattle.session_model.specs.Waits.{waits_said}
use Rattle.session_clients.specs.declared.client.Client.{Client}
use Rattle.session_clients.specs.Clients.{Held, client_after, held_after, phase_in, table_in}
use Rattle.session_state.specs.Session.{Session, Turns, moved, round_said, turns_said}
use Rattle.session_model.proofs.DiscardLaws.{find-beside, find-left, stands-on}
use Rattle.manager_machine.specs.Given.{names_discard, where_told}

-- The table of the one that speaks

silent-table : (c : ℕ) (m : XsmpMessage) → [] ≡ table_said c m (λ d. None) []
silent-table c (SetProperties list) = refl
silent-table c (DeleteProperties names) = refl
silent-table c m = refl

-- b: it is the row of the one that speaks
spoken-at : (b : Bool) (c : ℕ) (m : XsmpMessage) (k : Client) (p : Option Phase) (now before : List Property) → (k.conn == c) ≡ b → now ≡ table_said c m (λ d. p) before
    → cond b (cond (c == k.conn) (table_said k.conn m (λ d. k.phase) k.table) k.table) now ≡ table_said c m (λ d. cond b k.phase p) (cond b k.table before)
spoken-at true c m k p now before e f =
    let own : (c == k.conn) ≡ true = grind (arith, nat_tests) in
    let same : k.conn ≡ c = grind (arith, nat_tests) in
    λ i. cond (own i) (table_said (same i) m (λ d. k.phase) k.table) k.table
spoken-at false c m k p now before e f = f

table-spoken : (c : ℕ) (m : XsmpMessage) (sequence : ℕ) (frame : List ℕ) (first : List ℕ → List Property) (allowed : Dialog → Bool) (rows : List Client)
    → table_in c (map (client_after (Outside (Said c m sequence frame)) first allowed) rows) ≡ table_said c m (λ d. phase_in c rows) (table_in c rows)
table-spoken c m sequence frame first allowed [] = silent-table c m
table-spoken c m sequence frame first allowed (k ∷ rows) =
    spoken-at (k.conn == c) c m k (phase_in c rows) (table_in c (map (client_after (Outside (Said c m sequence frame)) first allowed) rows)) (table_in c rows) refl (table-spoken c m sequence frame first allowed rows)

-- What stops standing

stopped-between : (c : ℕ) (m : XsmpMessage) (phase : ℕ → Option Phase) (table : ℕ → List Property) → stopped (where_told m (discard_of (table c))) (where_told m (discard_of (table_said c m (λ d. phase c) (table c)))) ≡ stopped_said c m phase table
stopped-between c (SetProperties list) phase table = between-at (names_discard (SetProperties list)) refl where
  left : (b : Bool) → list_any (is_named (codes "DiscardCommand")) list ≡ false → find_property (codes "DiscardCommand") (cond b (set_table list (table c)) (table c)) ≡ find_property (codes "DiscardCommand") (table c)
  left false e = refl
  left true e = fitting (is_full (set_all (table c) list)) where
    fitting : (full : Bool) → find_property (codes "DiscardCommand") (cond full (table c) (set_all (table c) list)) ≡ find_property (codes "DiscardCommand") (table c)
    fitting true = refl
    fitting false = find-beside (codes "DiscardCommand") list (table c) e

  between-at : (b : Bool) → names_discard (SetProperties list) ≡ b
      → stopped (cond b (discard_of (table c)) None) (cond b (discard_of (table_said c (SetProperties list) (λ d. phase c) (table c))) None) ≡ stopped_said c (SetProperties list) phase table
  between-at true e = refl
  between-at false e = sym (stands-on (table c) (table_said c (SetProperties list) phase (table c)) (left (is_bound (phase c)) e))
stopped-between c (DeleteProperties names) phase table = between-at (names_discard (DeleteProperties names)) refl where
  left : (b : Bool) → list_any (bytes_eq (codes "DiscardCommand")) names ≡ false → find_property (codes "DiscardCommand") (cond b (without_names names (table c)) (table c)) ≡ find_property (codes "DiscardCommand") (table c)
  left false e = refl
  left true e = find-left (codes "DiscardCommand") names (table c) e

  between-at : (b : Bool) → names_discard (DeleteProperties names) ≡ b
      → stopped (cond b (discard_of (table c)) None) (cond b (discard_of (table_said c (DeleteProperties names) (λ d. phase c) (table c))) None) ≡ stopped_said c (DeleteProperties names) phase table
  between-at true e = refl
  between-at false e = sym (stands-on (table c) (table_said c (DeleteProperties names) phase (table c)) (left (is_bound (phase c)) e))
stopped-between c m phase table = refl

pub stopped-spoken : (c : ℕ) (m : XsmpMessage) (sequence : ℕ) (frame : List ℕ) (first : List ℕ → List Property) (allowed : Dialog → Bool) (before now : Held) → now ≡ held_after (Outside (Said c m sequence frame)) first allowed before
    → stopped (where_told m (discard_of (table_in c before.rows))) (where_told m (discard_of (table_in c now.rows))) ≡ stopped_said c m (λ d. phase_in d before.rows) (λ d. table_in d before.rows)
stopped-spoken c m sequence frame first allowed before now e =
    ap (λ (held : Held). stopped (where_told m (discard_of (table_in c before.rows))) (where_told m (discard_of (table_in c held.rows)))) e
    ∙ ap (λ (table : List Property). stopped (where_told m (discard_of (table_in c before.rows))) (where_told m (discard_of table))) (table-spoken c m sequence frame first allowed before.rows)
    ∙ stopped-between c m (λ d. phase_in d before.rows) (λ d. table_in d before.rows)

-- The move

pub said-by : (c : ℕ) (m : XsmpMessage) (sequence : ℕ) (frame : List ℕ) (s : Session) (clients : Held) (round : Option Agreement) (waits : List Wait) (turns : Turns) (strays : List Command) (newcomer : Option ℕ) (marks : Marks)
    → ((first : List ℕ → List Property) → clients ≡ held_after (Outside (Said c m sequence frame)) first (may_interact (wanted_in s.round)) s.clients)
    → round ≡ round_said c m (λ d. phase_in d s.clients.rows) s.round
    → waits ≡ waits_said c m (λ d. phase_in d s.clients.rows) s.waits
    → turns ≡ turns_said c m (λ d. phase_in d s.clients.rows) (λ dialog. may_interact (wanted_in s.round) dialog) s.turns
    → strays ≡ strays_with s.book (stopped_said c m (λ d. phase_in d s.clients.rows) (λ d. table_in d s.clients.rows)) s.strays
    → newcomer ≡ newcomer_said c m s.newcomer
    → marks ≡ s.marks
    → record s { clients = clients; round = round; waits = waits; turns = turns; strays = strays; newcomer = newcomer; marks = marks } ≡ moved (Outside (Said c m sequence frame)) s
said-by c m sequence frame s clients round waits turns strays newcomer marks k r w t e n a = λ i. record s {
  clients = k (λ id. first_table s.book id) i;
  round = r i;
  waits = w i;
  turns = t i;
  strays = e i;
  newcomer = n i;
  marks = a i;
  acts = sym (append-nil s.acts) i;
}
