use Rattle.std.proofs.Common.{◌∙◌, ap}
use Rattle.session_model.specs.Moves.{Began}
use Rattle.session_clients.specs.Clients.{phase_in}
use Rattle.session_state.specs.Session.{Session, moved}
use Rattle.manager_machine.specs.contracts.session_core.Core.{the_view}
use Rattle.manager_machine.proofs.RoundMoves.{began-by}
use Rattle.manager_machine.proofs.session_core.Core.begin.Goals as goal

pub returns : goal.returns
returns c =
    let s = the_view c.self.inside in
    began-by c.args.conns c.args.wanted s c.begin.new.self c.drop_first.new.self (c.in_ok-begin.ensures (λ d. phase_in d s.clients.rows)) c.drop_first.ensures
    ∙ ap (λ (s : Session). moved (Began c.args.conns c.args.wanted) s) c.self.view_is
