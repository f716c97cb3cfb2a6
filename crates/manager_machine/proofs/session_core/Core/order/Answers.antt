use Rattle.std.proofs.Common.{◌∙◌, sym, ap}
use Rattle.session_model.specs.Waits.{waits_ordered}
use Rattle.session_state.specs.Session.{Session}
use Rattle.manager_machine.proofs.Hearing.{ordered}
use Rattle.manager_machine.proofs.session_core.Core.order.Goals as goal

pub returns : goal.returns
returns c =
    rw c.in_ok-order.ensures
    (ap (λ (s : Session). record s { waits = waits_ordered c.args.order.now s.is_ending s.waits }) c.self.view_is ∙ sym (ordered c.args.order.now c.args.self.now))
