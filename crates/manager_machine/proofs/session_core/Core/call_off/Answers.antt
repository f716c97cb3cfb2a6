use Rattle.session_clients.specs.Clients.{phase_in}
use Rattle.std.proofs.Common.{◌∙◌, ap}
use Rattle.session_model.specs.Moves.{Cancelled}
use Rattle.session_state.specs.Session.{Session, moved}
use Rattle.manager_machine.specs.contracts.session_core.Core.{the_view}
use Rattle.manager_machine.proofs.RoundMoves.{cancelled-by}
use Rattle.manager_machine.proofs.session_core.Core.call_off.Goals as goal

pub returns : goal.returns
returns c = cancelled-by (the_view c.self.inside) c.end.new.self (c.end.ensures.cancelled (λ d. phase_in d c.self.inside.clients.rows)) ∙ ap (λ (s : Session). moved Cancelled s) c.self.view_is
