use Rattle.std.proofs.Common.{◌∙◌, ap}
use Rattle.session_model.specs.Moves.{Committed}
use Rattle.session_state.specs.Session.{Session, moved}
use Rattle.manager_machine.specs.contracts.session_core.Core.{the_view}
use Rattle.manager_machine.proofs.Committing.{committed-by}
use Rattle.manager_machine.proofs.session_core.Core.commit.Goals as goal

pub returns : goal.returns
returns c =
    c.in_ok-act.ensures
    ∙ committed-by c.args.book c.in_ok-told.told c.new.result.strays (the_view c.self.inside) c.in_ok-told.ensures c.new.ensures.strays
    ∙ ap (λ (s : Session). moved (Committed c.args.book) s) c.self.view_is
