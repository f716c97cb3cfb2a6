use Rattle.session_clients.specs.Clients.{phase_in}
use Rattle.std.proofs.Common.{◌∙◌, ap}
use Rattle.session_model.specs.Moves.{Over}
use Rattle.session_state.specs.Session.{Session, moved}
use Rattle.manager_machine.specs.contracts.session_core.Core.{the_view}
use Rattle.manager_machine.proofs.RoundMoves.{over-by}
use Rattle.manager_machine.proofs.session_core.Core.end_round.Goals as goal

pub returns : goal.returns
returns c = over-by (the_view c.self.inside) c.end.new.self (c.end.ensures.over (λ d. phase_in d c.self.inside.clients.rows)) ∙ ap (λ (s : Session). moved Over s) c.self.view_is
