use Rattle.std.proofs.Common.{◌≡◌, ◌∙◌, [], List, ℕ, ap, cond, sym}
use Rattle.std.specs.Prelude.{None, Option}
use Rattle.owned_lists.specs.declared.commands.Command.{Command}
use Rattle.ice_values.specs.declared.property.Property.{Property}
use Rattle.discard_ledger.specs.Discards.{discard_of}
use Rattle.session_model.specs.declared.phase.Phase.{Phase}
use Rattle.session_model.specs.declared.events.SessionEvent.TheVariants.{Said}
use Rattle.session_model.specs.Moves.{Outside}
use Rattle.session_model.specs.Phases.{may_interact}
use Rattle.session_model.specs.Reading.{wanted_in}
use Rattle.session_model.specs.Tables.{stopped, stopped_said, strays_with}
use Rattle.session_clients.specs.Clients.{held_after, phase_in, table_in}
use Rattle.session_state.specs.Session.{Session, moved, turns_said}
use Rattle.manager_machine.specs.contracts.session_core.Core.{the_view}
use Rattle.manager_machine.proofs.Saying.{said-by, stopped-spoken}
use Rattle.manager_machine.proofs.session_core.Core.hear.Goals as goal

pub returns : goal.returns
returns c = λ sequence frame.
    let s = the_view c.self.inside in
    let conn = c.args.conn in
    let m = c.args.message.now in
    let phase : ℕ → Option Phase = λ d. phase_in d s.clients.rows in
    let clients : (first : List ℕ → List Property) → c.hear-3.new.self ≡ held_after (Outside (Said conn m sequence frame)) first (may_interact (wanted_in s.round)) s.clients
    = λ first. rw (← c.wanted-wanted.ensures) (c.in_ok-hear-2.ensures first sequence frame) in
    let queue = c.hear_queue.new.queue in
    let turns : record { waiting = queue.waiting; holder = queue.holder } ≡ turns_said conn m phase (λ dialog. may_interact (wanted_in s.round) dialog) s.turns
    = rw (← c.wanted-wanted.ensures) (c.in_ok-hear_queue.ensures phase (sym c.phase-phase.ensures)) in
    let command : c.stopped.result ≡ stopped_said conn m phase (λ d. table_in d s.clients.rows)
    = c.stopped.ensures ∙ (λ i. stopped (c.in_ok-before.ensures i) (c.in_ok-now.ensures i)) ∙ (λ i. stopped (cond (c.names_discard-is_discard_named.ensures i) (discard_of (table_in conn s.clients.rows)) None) (cond (c.names_discard-is_discard_named.ensures i) (discard_of (table_in conn c.hear-3.new.self.rows)) None)) ∙ stopped-spoken conn m sequence frame (λ id. []) (may_interact (wanted_in s.round)) s.clients c.hear-3.new.self (clients (λ id. [])) in
    let strays : c.add_stray.new.ledger.strays ≡ strays_with s.book (stopped_said conn m phase (λ d. table_in d s.clients.rows)) s.strays
    = c.in_ok-add_stray.ensures.strays ∙ ap (λ (x : Option Command). strays_with s.book x s.strays) command in
    said-by conn m sequence frame s c.hear-3.new.self c.hear.new.self.round c.hear-2.new.self (record { waiting = queue.waiting; holder = queue.holder }) c.add_stray.new.ledger.strays c.newcomer_said-self-inside.result c.hear.new.self.marks
    clients (c.hear.ensures.round phase (sym c.phase-phase.ensures)) (c.in_ok-hear.ensures phase (sym c.phase-phase.ensures)) turns strays c.newcomer_said-self-inside.ensures c.hear.ensures.marks
    ∙ ap (λ (t : Session). moved (Outside (Said conn m sequence frame)) t) c.self.view_is
