use Rattle.std.proofs.Common.{◌∙◌, ◌++◌, ◌∷◌, [], ap}
use Rattle.session_model.specs.declared.events.Act.TheVariants.{Shut}
use Rattle.session_state.specs.Session.{Session}
use Rattle.manager_machine.proofs.Leaving.{closed-by}
use Rattle.manager_machine.proofs.session_core.Core.close.Goals as goal

pub returns : goal.returns
returns c = c.in_ok-act.ensures ∙ ap (λ (s : Session). record s { acts = s.acts ++ Shut c.args.conn ∷ [] }) c.in_ok-leave.ensures ∙ closed-by c.args.conn c.args.self.now
