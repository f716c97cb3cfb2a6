use Rattle.std.proofs.Common.{◌≡◌, ap, ◌∙◌}
use Rattle.session_model.specs.Moves.{Agreed, Committed}
use Rattle.session_model.specs.Books.{with_entries}
use Rattle.session_state.specs.Session.{Session, moved, moved_all, reading_in}
use Rattle.manager_machine.specs.Agreeing.{completing}
use Rattle.manager_machine.proofs.Carrying.{carried}
use Rattle.manager_machine.proofs.session_core.Core.carry_out.Goals as goal

pub returns : goal.returns
returns c =
    let plan = c.args.plan in
    let book = with_entries (reading_in c.args.self.now).store plan.entries in
    let agreed : c.agree.new.self ≡ moved Agreed (moved (Committed book) c.args.self.now) = c.in_ok-agree.ensures ∙ ap (λ (s : Session). moved Agreed s) c.in_ok-commit_entries.ensures in
    c.in_ok-discard.ensures
    ∙ carried plan book c.args.self.now c.complete.new.self (c.in_ok-complete.ensures ∙ ap (λ (s : Session). moved_all (completing plan.completion) s) agreed)
