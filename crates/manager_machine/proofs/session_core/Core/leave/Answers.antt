use Rattle.session_clients.specs.Clients.{phase_in}
use Rattle.std.proofs.Common.{◌≡◌, ◌∙◌, ap}
use Rattle.discard_ledger.specs.Discards.{discard_of}
use Rattle.session_model.specs.declared.events.SessionEvent.TheVariants.{Left}
use Rattle.session_model.specs.Moves.{Outside}
use Rattle.session_model.specs.Tables.{strays_with}
use Rattle.session_clients.specs.Clients.{table_in}
use Rattle.session_state.specs.Session.{Session, moved}
use Rattle.manager_machine.specs.contracts.session_core.Core.{the_view}
use Rattle.manager_machine.proofs.Leaving.{left-by}
use Rattle.manager_machine.proofs.session_core.Core.leave.Goals as goal

pub returns : goal.returns
returns c =
    let s = the_view c.self.inside in
    let strays : c.add_stray.new.ledger.strays ≡ strays_with s.book (discard_of (table_in c.args.conn s.clients.rows)) s.strays = rw (← c.in_ok-command.ensures) c.in_ok-add_stray.ensures.strays in
    let running = c.leave-3.ensures (λ d. phase_in d s.clients.rows) in
    left-by c.args.conn s c.leave.new.self c.leave-3.new.self c.leave-4.new.self c.leave-2.new.self.waiting c.leave-2.new.self.holder c.add_stray.new.ledger.strays
    c.leave.ensures.left running c.leave-4.ensures c.leave-2.ensures.waiting c.leave-2.ensures.holder strays
    ∙ ap (λ (s : Session). moved (Outside (Left c.args.conn)) s) c.self.view_is
