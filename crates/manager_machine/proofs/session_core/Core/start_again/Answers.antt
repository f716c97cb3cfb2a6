use Rattle.std.proofs.Common.{◌∙◌, ◌++◌, ◌∷◌, [], sym, ap}
use Rattle.session_model.specs.declared.events.Act.TheVariants.{Start}
use Rattle.session_model.specs.declared.events.Reason.TheVariants.{Restart}
use Rattle.session_state.specs.Session.{Session, one_more_of}
use Rattle.manager_machine.proofs.Acting.{respawned}
use Rattle.manager_machine.proofs.session_core.Core.start_again.Goals as goal

pub returns : goal.returns
returns c =
    c.in_ok-act.ensures
    ∙ rw c.in_ok-count_more.ensures
    (ap (λ (s : Session). record s { counts = one_more_of c.args.id s.counts; acts = s.acts ++ Start Restart c.args.command ∷ [] }) c.self.view_is ∙ sym (respawned c.args.id c.args.command c.args.self.now))
