use Rattle.std.proofs.Common.{◌∙◌, ap}
use Rattle.restart_plan.specs.Restarts.{opening_restarts}
use Rattle.session_model.specs.Books.{raised}
use Rattle.session_state.specs.Session.{Session}
use Rattle.manager_machine.proofs.Committing.{begun-by}
use Rattle.manager_machine.proofs.session_core.Core.begin_run.Goals as goal

pub returns : goal.returns
returns c =
    begun-by c.args.self.now c.commit.new.self c.issue.new.self c.start_each.new.self c.in_ok-book.book c.in_ok-pending.pending c.in_ok-restarts.restarts
    (c.in_ok-book.ensures ∙ ap (λ (s : Session). raised s.book) c.self.view_is)
    (c.in_ok-pending.ensures ∙ ap (λ (s : Session). s.book.pending) c.self.view_is)
    (c.in_ok-restarts.ensures ∙ ap (λ (s : Session). opening_restarts s.book.entries) c.self.view_is)
    c.in_ok-commit.ensures c.in_ok-issue.ensures c.in_ok-start_each.ensures
