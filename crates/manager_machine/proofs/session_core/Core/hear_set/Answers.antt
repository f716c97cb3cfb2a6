use Rattle.std.proofs.Common.{◌≡◌, ◌∙◌, [], List, ℕ, ap, cond, refl}
use Rattle.std.specs.Prelude.{None, Option}
use Rattle.owned_lists.specs.declared.commands.Command.{Command}
use Rattle.ice_values.specs.Walks.{walk_left}
use Rattle.ice_values.specs.declared.property.Property.{Property}
use Rattle.xsmp_messages.specs.declared.message.XsmpMessage.{XsmpMessage}
use Rattle.xsmp_messages.specs.declared.message.XsmpMessage.TheVariants.{SetProperties}
use Rattle.discard_ledger.specs.Discards.{discard_of}
use Rattle.session_model.specs.declared.events.SessionEvent.TheVariants.{Said}
use Rattle.session_model.specs.Moves.{Outside}
use Rattle.session_model.specs.Phases.{may_interact}
use Rattle.session_model.specs.Reading.{wanted_in}
use Rattle.session_model.specs.Tables.{stopped, stopped_said, strays_with}
use Rattle.session_clients.specs.Clients.{held_after, phase_in, table_in}
use Rattle.session_state.specs.Session.{Session, moved}
use Rattle.manager_machine.specs.contracts.session_core.Core.{the_view}
use Rattle.manager_machine.proofs.Saying.{said-by, stopped-spoken}
use Rattle.manager_machine.proofs.session_core.Core.hear_set.Goals as goal

pub returns : goal.returns
returns c = λ sequence frame.
    let s = the_view c.self.inside in
    let conn = c.args.conn in
    let m : XsmpMessage = SetProperties (walk_left c.args.walk) in
    let clients : (first : List ℕ → List Property) → c.set.new.self ≡ held_after (Outside (Said conn m sequence frame)) first (may_interact (wanted_in s.round)) s.clients
    = λ first. c.in_ok-set.ensures first (may_interact (wanted_in s.round)) sequence frame in
    let command : c.stopped.result ≡ stopped_said conn m (λ d. phase_in d s.clients.rows) (λ d. table_in d s.clients.rows)
    = c.stopped.ensures ∙ (λ i. stopped (c.in_ok-before.ensures i) (c.in_ok-now.ensures i)) ∙ (λ i. stopped (cond (c.sets_discard-is_discard_named.ensures i) (discard_of (table_in conn s.clients.rows)) None) (cond (c.sets_discard-is_discard_named.ensures i) (discard_of (table_in conn c.set.new.self.rows)) None)) ∙ stopped-spoken conn m sequence frame (λ id. []) (may_interact (wanted_in s.round)) s.clients c.set.new.self (clients (λ id. [])) in
    let strays : c.add_stray.new.ledger.strays ≡ strays_with s.book (stopped_said conn m (λ d. phase_in d s.clients.rows) (λ d. table_in d s.clients.rows)) s.strays
    = c.in_ok-add_stray.ensures.strays ∙ ap (λ (x : Option Command). strays_with s.book x s.strays) command in
    said-by conn m sequence frame s c.set.new.self s.round s.waits s.turns c.add_stray.new.ledger.strays s.newcomer s.marks clients refl refl refl strays refl refl
    ∙ ap (λ (t : Session). moved (Outside (Said conn m sequence frame)) t) c.self.view_is
