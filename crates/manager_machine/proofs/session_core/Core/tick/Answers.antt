use Rattle.std.proofs.Common.{◌∙◌, sym, ap}
use Rattle.session_model.specs.declared.events.SessionEvent.TheVariants.{Tick}
use Rattle.session_model.specs.Moves.{Outside}
use Rattle.session_clients.specs.Clients.{held_by}
use Rattle.session_state.specs.Session.{Session}
use Rattle.manager_machine.proofs.Hearing.{ticked}
use Rattle.manager_machine.proofs.session_core.Core.tick.Goals as goal

pub returns : goal.returns
returns c =
    rw c.tick.ensures
    (ap (λ (s : Session). record s { clients = held_by (Outside (Tick c.args.milliseconds)) s.clients }) c.self.view_is ∙ sym (ticked c.args.milliseconds c.args.self.now))
