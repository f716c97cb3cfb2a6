use Rattle.std.proofs.Common.{◌∙◌, sym}
use Rattle.manager_machine.proofs.Acting.{printed}
use Rattle.manager_machine.proofs.session_core.Core.print.Goals as goal

pub returns : goal.returns
returns c = c.in_ok-act.ensures ∙ sym (printed c.args.text c.args.self.now)
